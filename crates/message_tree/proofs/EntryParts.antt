-- Entries in two parts, and a key that stands behind the first of them.
use Rattle.std.proofs.Common.{◌≡◌, ℕ, List, Less, nat_cmp, refl, ap, ◌∙◌, subst}
use Rattle.std.specs.Cmp.Lexicographic.{slice_cmp}
use Rattle.std.specs.Ordering.{ordering_reverse}
use Rattle.std.proofs.lemmas.Cmp.{nat_list_cmp_total}
use Rattle.message_tree.specs.Data.{Data, Entries, no_entries, entry, put, joined, IsAscending, IsBeforeAll, IsBelow}

pub joined-none : (es : Entries) → joined es no_entries ≡ es
joined-none no_entries = refl
joined-none (entry k d es) = ap (entry k d) (joined-none es)

-- a key above all others is put behind them
pub put-behind : (es : Entries) (key : List ℕ) (value : Data) (others : Entries) → IsBelow es key → joined es (entry key value others) ≡ joined (put key value es) others
put-behind no_entries key value others below = refl
put-behind (entry k d es) key value others below = rw below.0 (ap (entry k d) (put-behind es key value others below.1))

stands-before : (k : List ℕ) (es : Entries) (key : List ℕ) (value : Data) (others : Entries) → IsBeforeAll k (joined es (entry key value others)) → slice_cmp nat_cmp k key ≡ Less
stands-before k no_entries key value others before = before.0
stands-before k (entry l d es) key value others before = stands-before k es key value others before.1

-- among ascending entries each key is above those that stand before it
pub below-next : (es : Entries) (key : List ℕ) (value : Data) (others : Entries) → IsAscending (joined es (entry key value others)) → IsBelow es key
below-next no_entries key value others ascending = tt
below-next (entry k d es) key value others ascending =
    (nat_list_cmp_total.antisymm key k ∙ ap ordering_reverse (stands-before k es key value others ascending.0), below-next es key value others ascending.1)

-- so ascending entries may be put one after the other
pub next-put : (es : Entries) (key : List ℕ) (value : Data) (others all : Entries) → all ≡ joined es (entry key value others) → IsAscending all → all ≡ joined (put key value es) others
next-put es key value others all is ascending =
    is ∙ put-behind es key value others (below-next es key value others (subst IsAscending is ascending))
