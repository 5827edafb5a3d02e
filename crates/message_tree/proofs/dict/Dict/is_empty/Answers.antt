use Rattle.std.proofs.Common.{◌≡◌, nat_eq, ap, ◌∙◌, refl, sym, arith, rules}
use Rattle.message_tree.specs.Data.{Entries, no_entries, entry, entry_count}
use Rattle.message_tree.proofs.dict.Dict.is_empty.Goals as goal

none_of : (es : Entries) → entry_count es ≡ 0 → es ≡ no_entries
none_of no_entries e = refl
none_of (entry k d es) e = absurd (omega (arith, e))

pub returns : goal.returns
returns c =
    ((λ is. none_of _ (sym c.len.ensures.count ∙ search (is, rules))), (λ none. ap (λ n. nat_eq n 0) (c.len.ensures.count ∙ ap entry_count none)))
