-- What is posted to no inbox.
use Rattle.std.proofs.Common.{◌≡◌, ℕ, List, [], ◌∷◌, ◌++◌, None, Ok, Err, MatchResult, ap, ◌∙◌}
use Rattle.std.specs.declared.result.Result.{Result}
use Rattle.std.proofs.lemmas.List.{map-append}
use Rattle.realm_inbox.specs.Posted.{with_acts}
use Rattle.realm_inbox.specs.declared.act.Act.{Act}
use Rattle.cases_connection.specs.Outside.{outside}

module _ {S : Type 0} where
  pub outside_more : (xs ys : List (Act S)) (act : Act S) → ys ≡ xs ++ act ∷ [] → outside ys ≡ with_acts (outside xs) (act ∷ [])
  outside_more xs ys act e =
      ap outside e ∙ ap (λ (said : List (ℕ × Act S)). record { inbox = None; conn = 0; said = said }) (map-append (λ a. (0, a)) xs (act ∷ []))

  pub posts_outside : (r : Result Unit (Act S)) (act : Act S) (xs ys : List (Act S)) → MatchResult r (λ done. ys ≡ xs ++ act ∷ []) (λ back. (back ≡ act) × (ys ≡ xs))
      → MatchResult r (λ done. outside ys ≡ with_acts (outside xs) (act ∷ [])) (λ back. (back ≡ act) × (outside ys ≡ outside xs))
  posts_outside (Ok done) act xs ys e = outside_more xs ys act e
  posts_outside (Err back) act xs ys e = (e.0, ap outside e.1)
