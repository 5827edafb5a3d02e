-- A list of numbers, number by number.
use Rattle.std.proofs.Common.{◌≡◌, ◌<◌, ◌+◌, ℕ, List, [], ◌∷◌, ◌++◌, length, get_or, take, refl, ap, sym, ◌∙◌}
use Rattle.std.specs.List.{AllByRecursion}
use Rattle.std.proofs.lemmas.List.{take_more}
use Rattle.message_tree.specs.Data.{item}
use Rattle.message_tree.specs.View.{view, items_view}
use Rattle.message_tree.specs.declared.tree.Tree.{Tree}
use Rattle.session.specs.ToClient.{number}
use Rattle.client_messages.specs.Wishes.{numbers}
use Rattle.client_messages.proofs.TextItems.{with_last, items_view-last}

numbers-last : (ns : List ℕ) (n : ℕ) → numbers (ns ++ n ∷ []) ≡ with_last (numbers ns) (number n)
numbers-last [] n = refl
numbers-last (m ∷ ns) n = ap (item (number m)) (numbers-last ns n)

-- one more on both sides
one_more : (ts : List Tree) (t : Tree) (ns : List ℕ) (n : ℕ) → items_view ts ≡ numbers ns → view t ≡ number n → items_view (ts ++ t ∷ []) ≡ numbers (ns ++ n ∷ [])
one_more ts t ns n same one = items_view-last ts t ∙ ap (λ i. with_last i (view t)) same ∙ ap (with_last (numbers ns)) one ∙ sym (numbers-last ns n)

pub next_number : (ts : List Tree) (t : Tree) (of : List ℕ) (i n : ℕ) → i < length of → n ≡ get_or of i n → items_view ts ≡ numbers (take i of) → view t ≡ number n
    → items_view (ts ++ t ∷ []) ≡ numbers (take (i + 1) of)
next_number ts t of i n h is same one = rw (take_more of i n h, sym is) (one_more ts t (take i of) n same one)

all-last : (P : ℕ → Type 0) (ns : List ℕ) (n : ℕ) → AllByRecursion P ns → P n → AllByRecursion P (ns ++ n ∷ [])
all-last P [] n all one = (one, tt)
all-last P (m ∷ ns) n all one = (all.0, all-last P ns n all.1 one)

pub all_next : (P : ℕ → Type 0) (of : List ℕ) (i n : ℕ) → i < length of → n ≡ get_or of i n → AllByRecursion P (take i of) → P n → AllByRecursion P (take (i + 1) of)
all_next P of i n h is all one = rw (take_more of i n h, sym is) (all-last P (take i of) n all one)
