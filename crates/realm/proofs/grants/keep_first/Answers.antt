use Rattle.std.proofs.Common.{◌≡◌, ℕ, Bool, true, false, cond, List, refl, sym, ap, ◌∙◌, None, Some, string_bytes}
use Rattle.std.specs.declared.option.Option.{Option}
use Rattle.std.specs.Str.{bytes_eq}
use Rattle.std.proofs.lemmas.Slice.Eq.{bytes_eq-Decides}
use Rattle.std.proofs.lemmas.Map.Text.{hash_map_updates_text}
use Rattle.indexmap.specs.IndexMap.{get_by_text}
use Rattle.realm.specs.Grants.{first_of}
use Rattle.realm.proofs.Conditionals.{not-some}
use Rattle.realm.proofs.grants.keep_first.Goals as goal

first-kept : (b : Bool) (o : Option (List ℕ)) (role : List ℕ) → (b ≡ true → o ≡ None) → cond b (Some role) o ≡ first_of o (cond b (Some role) None)
first-kept true o role free = rw (free refl) refl
first-kept false None role free = refl
first-kept false (Some kept) role free = refl

pub returns-in_ok-insert : goal.returns-in_ok-insert
returns-in_ok-insert c = λ name.
    let vacant = rw c.as_str.ensures.value at (sym c.contains_key.ensures ∙ c.if-not-contains_key.true) in
    hash_map_updates_text (string_bytes c.args.authid) c.args.roles.now c.insert.new.self (Some c.args.role) c.in_ok-insert.ensures.updates name
    ∙ first-kept (bytes_eq (string_bytes c.args.authid) name) (get_by_text c.args.roles.now name) c.args.role
    (λ same. ap (get_by_text c.args.roles.now) (sym ((bytes_eq-Decides (string_bytes c.args.authid) name).0 same)) ∙ not-some (get_by_text c.args.roles.now (string_bytes c.args.authid)) vacant)
