-- The searches for the prefixes and the wildcards that match a topic together.
use Rattle.std.proofs.Common.{◌≡◌, ◌&&◌, ℕ, true, false, List, Some, ◌⊎◌, inl, inr, nat_eq}
use Rattle.std.specs.List.{starts_with}
use Rattle.wamp_ids.specs.Uri.{components}
use Rattle.wamp_ids.specs.Pattern.{PatternText, fits, matches}
use Rattle.wamp_ids.specs.declared.pattern.Policy.{Policy}
use Rattle.wamp_ids.specs.declared.pattern.Policy.TheVariants.{Exact, Prefix, Wildcard}
use Rattle.subscription_index.specs.Receiver.{names_topic}
use Rattle.subscription_index.specs.declared.names.Names.{Names}
use Rattle.subscription_index.specs.body.Found.{has, Adds}
use Rattle.subscription_index.specs.body.Tables.{number_by_length}
use Rattle.subscription_index.specs.body.Names.{wildcard_number, number_named}

pub adds_others : (names : Names) (topic a b c : List ℕ) → Adds (number_by_length names.prefixes) (λ q. starts_with nat_eq topic q) a b
    → Adds (wildcard_number names.deep names.shapes) (λ q. fits (components q) (components topic)) b c → Adds (number_named names) (λ p. names_topic p.policy && matches p topic) a c
adds_others names topic a b c f g = record {
  kept = λ n h. g.kept n (f.kept n h);
  found = λ p n is h. by_policy p.policy p.text n is h;
  only = λ n h. from_second n (g.only n h);
}
  where
    by_policy : (policy : Policy) (text : List ℕ) (n : ℕ) → number_named names (record { policy = policy; text = text }) ≡ Some n → names_topic policy && matches (record { policy = policy; text = text }) topic ≡ true → has c n ≡ true
    by_policy Exact text n is h = let e : false ≡ true = h in cc
    by_policy Prefix text n is h = g.kept n (f.found text n is h)
    by_policy Wildcard text n is h = g.found text n is h

    from_first : (n : ℕ) → (has a n ≡ true) ⊎ ((q : List ℕ) × (number_by_length names.prefixes q ≡ Some n) × (starts_with nat_eq topic q ≡ true)) → (has a n ≡ true) ⊎ ((p : PatternText) × (number_named names p ≡ Some n) × (names_topic p.policy && matches p topic ≡ true))
    from_first n (inl l) = inl l
    from_first n (inr r) = inr (record { policy = Prefix; text = r.0 }, r.1, r.2)

    from_second : (n : ℕ) → (has b n ≡ true) ⊎ ((q : List ℕ) × (wildcard_number names.deep names.shapes q ≡ Some n) × (fits (components q) (components topic) ≡ true)) → (has a n ≡ true) ⊎ ((p : PatternText) × (number_named names p ≡ Some n) × (names_topic p.policy && matches p topic ≡ true))
    from_second n (inl l) = from_first n (f.only n l)
    from_second n (inr r) = inr (record { policy = Wildcard; text = r.0 }, r.1, r.2)
