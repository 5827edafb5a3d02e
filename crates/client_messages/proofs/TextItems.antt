-- A list of texts, text by text.
use Rattle.std.proofs.Common.{◌≡◌, ◌<◌, ◌+◌, ℕ, List, [], ◌∷◌, ◌++◌, length, get_or, take, refl, ap, sym, ◌∙◌}
use Rattle.std.proofs.lemmas.List.{take_more}
use Rattle.message_tree.specs.Data.{Data, text, Items, no_items, item}
use Rattle.message_tree.specs.View.{view, items_view}
use Rattle.message_tree.specs.declared.tree.Tree.{Tree}
use Rattle.client_messages.specs.Wishes.{texts}

-- the items, and one more
abbrev pub with_last : Items → Data → Items
with_last no_items d = item d no_items
with_last (item e es) d = item e (with_last es d)

pub items_view-last : (ts : List Tree) (t : Tree) → items_view (ts ++ t ∷ []) ≡ with_last (items_view ts) (view t)
items_view-last [] t = refl
items_view-last (x ∷ ts) t = ap (item (view x)) (items_view-last ts t)

pub texts-last : (ts : List (List ℕ)) (t : List ℕ) → texts (ts ++ t ∷ []) ≡ with_last (texts ts) (text t)
texts-last [] t = refl
texts-last (x ∷ ts) t = ap (item (text x)) (texts-last ts t)

-- one more on both sides
pub one_more : (ts : List Tree) (t : Tree) (ss : List (List ℕ)) (s : List ℕ) → items_view ts ≡ texts ss → view t ≡ text s → items_view (ts ++ t ∷ []) ≡ texts (ss ++ s ∷ [])
one_more ts t ss s same one = items_view-last ts t ∙ ap (λ i. with_last i (view t)) same ∙ ap (with_last (texts ss)) one ∙ sym (texts-last ss s)

pub next_one : (ts : List Tree) (t : Tree) (of : List (List ℕ)) (i : ℕ) (s : List ℕ) → i < length of → s ≡ get_or of i s → items_view ts ≡ texts (take i of) → view t ≡ text s
    → items_view (ts ++ t ∷ []) ≡ texts (take (i + 1) of)
next_one ts t of i s h is same one = rw (take_more of i s h, sym is) (one_more ts t (take i of) s same one)
