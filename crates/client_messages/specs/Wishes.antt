-- The options that ask for what a client wishes: an option stands there exactly where it is wished, and no other does.
use Rattle.std.specs.Prelude.{ℕ, ℤ, pos, Bool, true, false, cond, List, [], ◌∷◌, map, codes, None, Some, ⊤}
use Rattle.std.specs.declared.option.Option.{Option}
use Rattle.std.specs.Option.{option_map}
use Rattle.std.specs.List.{AllByRecursion}
use Rattle.wamp_ids.specs.Numbers.{IsId}
use Rattle.session.specs.ToClient.{number}
use Rattle.message_tree.specs.Data.{Data, flag, text, list, Items, no_items, item, Entries, no_entries, put}
use Rattle.eligibility.specs.Lists.{Audience}
use Rattle.wamp_ids.specs.declared.pattern.Policy.{Policy}
use Rattle.wamp_ids.specs.declared.pattern.Policy.TheVariants.{Exact, Prefix, Wildcard}
use Rattle.client_messages.specs.declared.wishes.SubscribeWishes.{SubscribeWishes}
use Rattle.client_messages.specs.declared.wishes.PublishWishes.{PublishWishes}
use Rattle.client_messages.specs.declared.wishes.SessionLists.{SessionLists}

-- the entries, with this at k where there is one
unfoldable pub put_some : List ℕ → Option Data → Entries → Entries
put_some k None es = es
put_some k (Some d) es = put k d es

-- true where it is wished, and nothing where not
abbrev pub flag_wish : Bool → Option Data
flag_wish wished = cond wished (Some (flag true)) None

-- exact patterns need no word
abbrev pub policy_wish : Policy → Option Data
policy_wish Exact = None
policy_wish Prefix = Some (text (codes "prefix"))
policy_wish Wildcard = Some (text (codes "wildcard"))

-- that a publisher is left out needs no word
abbrev pub exclude_me_wish : Bool → Option Data
exclude_me_wish exclude_me = cond exclude_me None (Some (flag false))

abbrev pub texts : List (List ℕ) → Items
texts [] = no_items
texts (t ∷ ts) = item (text t) (texts ts)

abbrev pub texts_wish : Option (List (List ℕ)) → Option Data
texts_wish None = None
texts_wish (Some ts) = Some (list (texts ts))

abbrev pub numbers : List ℕ → Items
numbers [] = no_items
numbers (n ∷ ns) = item (number n) (numbers ns)

abbrev pub numbers_wish : Option (List ℕ) → Option Data
numbers_wish None = None
numbers_wish (Some ns) = Some (list (numbers ns))

abbrev pub ids_in : SessionLists → Option (List ℕ)
ids_in lists = option_map (λ v. v.items) lists.ids

abbrev pub authids_in : SessionLists → Option (List (List ℕ))
authids_in lists = option_map (λ v. v.items) lists.authids

abbrev pub authroles_in : SessionLists → Option (List (List ℕ))
authroles_in lists = option_map (λ v. v.items) lists.authroles

-- the numbers that are given are ids
abbrev pub AreIds : Option (List ℕ) → Type 0
AreIds None = ⊤
AreIds (Some ns) = AllByRecursion IsId ns

-- the entries, with each list that is given at its key
unfoldable pub put_lists : SessionLists → List ℕ → List ℕ → List ℕ → Entries → Entries
put_lists lists ids authids authroles es =
    put_some ids (numbers_wish (ids_in lists)) (put_some authids (texts_wish (authids_in lists)) (put_some authroles (texts_wish (authroles_in lists)) es))

unfoldable pub subscribe_options : SubscribeWishes → Entries
subscribe_options w =
    put_some (codes "match") (policy_wish w.policy) (put_some (codes "get_retained") (flag_wish w.get_retained) no_entries)

unfoldable pub publish_options : PublishWishes → Entries
publish_options w =
    put_some (codes "acknowledge") (flag_wish w.acknowledge) (put_some (codes "disclose_me") (flag_wish w.disclose_me)
    (put_lists w.eligible (codes "eligible") (codes "eligible_authid") (codes "eligible_authrole")
    (put_lists w.exclude (codes "exclude") (codes "exclude_authid") (codes "exclude_authrole")
    (put_some (codes "exclude_me") (exclude_me_wish w.exclude_me) (put_some (codes "retain") (flag_wish w.retain) no_entries)))))

abbrev pub integers : Option (List ℕ) → Option (List ℤ)
integers ns = option_map (map pos) ns

-- whom the wishes let receive
abbrev pub wished_audience : PublishWishes → Audience
wished_audience w = record {
  exclude_me = w.exclude_me;
  exclude = integers (ids_in w.exclude);
  exclude_authid = authids_in w.exclude;
  exclude_authrole = authroles_in w.exclude;
  eligible = integers (ids_in w.eligible);
  eligible_authid = authids_in w.eligible;
  eligible_authrole = authroles_in w.eligible;
}
