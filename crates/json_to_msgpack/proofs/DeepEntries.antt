-- Entries whose values nest too deep, and null in place of these.
use Rattle.std.proofs.Common.{◌≡◌, ℕ, ◌<◌, Bool, true, false, not, cond, if◌then◌else◌, List, [], ◌∷◌, ◌++◌, Some, None, Ordering, Less, Equal, Greater, nat_cmp, nat_lt, is_eq, refl, sym, ap, ap₂, subst, ◌∙◌, arith}
use Rattle.std.specs.Cmp.Lexicographic.{slice_cmp}
use Rattle.std.specs.Ordering.{match_ordering, ordering_reverse}
use Rattle.std.specs.Str.{bytes_eq}
use Rattle.std.proofs.lemmas.Bool.{lt-ltb, le-ltb, ltb-true}
use Rattle.std.proofs.lemmas.Cmp.{nat_list_cmp_total, tied_itself}
use Rattle.std.proofs.lemmas.Map.Text.{is_eq-slice_cmp}
use Rattle.std.proofs.lemmas.Slice.Eq.{bytes_eq-Decides}
use Rattle.message_tree.specs.Data.{Data, null, depth, entries_depth, Entries, no_entries, entry, put, find_entry, IsAscending, IsBeforeAll}
use Rattle.message_tree.proofs.Comparisons.{through, whichever}
use Rattle.message_tree.proofs.Entries.{find_entry-put, find_entry-put-other}
use Rattle.msgpack_codec.specs.Grammar.{Spells}
use Rattle.msgpack_codec.proofs.Depth.{depth_within}
use Rattle.msgpack_codec.proofs.ShortIsSpelled.{null_spelled}
use Rattle.json_to_msgpack.specs.declared.fit.Fit.{Fit}
use Rattle.json_to_msgpack.specs.declared.fit.Fit.TheVariants.{Within, TooDeep, Unreadable}
use Rattle.json_to_msgpack.specs.body.Fits.{is_within}
use Rattle.json_to_msgpack.specs.body.Keys.{is_deeper, is_deep_at}
use Rattle.json_to_msgpack.specs.body.Values.{pruned, pruned_entries, IsWritten}

-- ---- a value

-- what was written spells the value, or null in its place
pub record IsPruned (inside : Bool) (room : ℕ) (d : Data) (before after : List ℕ) : Type 0 where
  pub octets : List ℕ
  pub behind : after ≡ before ++ octets
  pub deeper : nat_lt room (depth d) ≡ not inside
  pub spelled : Spells room octets (pruned room d)

as_pruned : (room : ℕ) (d e : Data) (octets : List ℕ) → pruned room d ≡ e → Spells room octets e → Spells room octets (pruned room d)
as_pruned room d e octets same h = subst (Spells room octets) (sym same) h

pub written_pruned : (fit : Fit) (room : ℕ) (d : Data) (before after : List ℕ) → IsWritten fit room d before after → IsPruned (is_within fit) room d before after
written_pruned Within room d before after h =
    let not_deeper = le-ltb room (depth d) (depth_within room h.octets d h.spelled) in
    record { octets = h.octets; behind = h.behind; deeper = not_deeper; spelled = as_pruned room d d h.octets (ap (λ b. if b then null else d) not_deeper) h.spelled }
written_pruned TooDeep room d before after h =
    let is_so = lt-ltb room (depth d) h.deeper in
    record { octets = 192 ∷ []; behind = h.behind; deeper = is_so; spelled = as_pruned room d null (192 ∷ []) (ap (λ b. if b then null else d) is_so) (null_spelled room) }
written_pruned Unreadable room d before after h = absurd h

-- ---- keys stay in their order

before-put : (l k : List ℕ) (d : Data) (es : Entries) → slice_cmp nat_cmp l k ≡ Less → IsBeforeAll l es → IsBeforeAll l (put k d es)
before-put l k d no_entries lt h = (lt, tt)
before-put l k d (entry m e es) lt h = whichever (IsBeforeAll l) (slice_cmp nat_cmp k m) _ _ _ (lt, h) h (h.0, before-put l k d es lt h.1)

before_all : (k l : List ℕ) (es : Entries) → slice_cmp nat_cmp k l ≡ Less → IsBeforeAll l es → IsBeforeAll k es
before_all k l no_entries lt h = tt
before_all k l (entry m d es) lt h = (nat_list_cmp_total.trans k l m lt h.0, before_all k l es lt h.1)

in_order : (k l : List ℕ) (d e : Data) (es more : Entries) (o : Ordering) → slice_cmp nat_cmp k l ≡ o → IsAscending (entry l e es) → (slice_cmp nat_cmp l k ≡ Less → IsAscending (entry l e more))
    → IsAscending (match_ordering o (entry k d (entry l e es)) (entry l d es) (entry l e more))
in_order k l d e es more Less is a next = ((is, before_all k l es is a.0), a)
in_order k l d e es more Equal is a next = a
in_order k l d e es more Greater is a next = next (nat_list_cmp_total.antisymm l k ∙ ap ordering_reverse is)

pub ascending-put : (k : List ℕ) (d : Data) (es : Entries) → IsAscending es → IsAscending (put k d es)
ascending-put k d no_entries a = (tt, tt)
ascending-put k d (entry l e es) a =
    in_order k l d e es (put k d es) (slice_cmp nat_cmp k l) refl a (λ lt. (before-put l k d es lt a.0, ascending-put k d es a.1))

-- ---- the entries once a key was put

pub pruned_entries-put : (room : ℕ) (k : List ℕ) (d : Data) (es : Entries) → pruned_entries room (put k d es) ≡ put k (pruned room d) (pruned_entries room es)
pruned_entries-put room k d no_entries = refl
pruned_entries-put room k d (entry l e es) =
    let v = pruned room d in
    let w = pruned room e in
    let rest = pruned_entries room es in
    sym (through (pruned_entries room) (slice_cmp nat_cmp k l) (entry k d (entry l e es)) (entry l d es) (entry l e (put k d es)))
    ∙ ap (λ (more : Entries). match_ordering (slice_cmp nat_cmp k l) (entry k v (entry l w rest)) (entry l v rest) (entry l w more)) (pruned_entries-put room k d es)

deep_by : (room : ℕ) (k q : List ℕ) (d : Data) (es : Entries) (same : Bool) → bytes_eq k q ≡ same → is_deep_at room q (put k d es) ≡ cond same (nat_lt room (depth d)) (is_deep_at room q es)
deep_by room k q d es true e = ap (is_deeper room) (subst (λ x. find_entry x (put k d es) ≡ Some d) ((bytes_eq-Decides k q).0 e) (find_entry-put k d es))
deep_by room k q d es false e = ap (is_deeper room) (find_entry-put-other q k d es (λ same. let is : bytes_eq k q ≡ true = (bytes_eq-Decides k q).1 (sym same) in absurd cc))

pub deep-put : (room : ℕ) (k q : List ℕ) (d : Data) (es : Entries) → is_deep_at room q (put k d es) ≡ cond (bytes_eq k q) (nat_lt room (depth d)) (is_deep_at room q es)
deep-put room k q d es = deep_by room k q d es (bytes_eq k q) refl

-- ---- no value is too deep, or one is

absent : (k : List ℕ) (es : Entries) → IsBeforeAll k es → find_entry k es ≡ None
absent k no_entries h = refl
absent k (entry l d es) h = rw h.0 (absent k es h.1)

-- where a key finds nothing deep, it finds nothing deep behind the first entry
behind_first : (room : ℕ) (k q : List ℕ) (d : Data) (es : Entries) (o : Ordering) → IsBeforeAll k es → slice_cmp nat_cmp q k ≡ o
    → is_deeper room (match_ordering o (find_entry q es) (Some d) (find_entry q es)) ≡ false → is_deep_at room q es ≡ false
behind_first room k q d es Less before e h = h
behind_first room k q d es Greater before e h = h
behind_first room k q d es Equal before e h =
    let same : q ≡ k = (bytes_eq-Decides q k).0 (sym (is_eq-slice_cmp q k) ∙ ap is_eq e) in
    ap (is_deeper room) (absent q es (subst (λ x. IsBeforeAll x es) (sym same) before))

first_found : (k : List ℕ) (d : Data) (es : Entries) → find_entry k (entry k d es) ≡ Some d
first_found k d es = rw (tied_itself nat_list_cmp_total k) refl

pub none_deep : (room : ℕ) (es : Entries) → IsAscending es → ((q : List ℕ) → is_deep_at room q es ≡ false) → pruned_entries room es ≡ es
none_deep room no_entries a h = refl
none_deep room (entry k d es) a h =
    let shallow : nat_lt room (depth d) ≡ false = sym (ap (is_deeper room) (first_found k d es)) ∙ h k in
    ap₂ (λ (v : Data) (more : Entries). entry k v more) (ap (λ b. if b then null else d) shallow) (none_deep room es a.1 (λ q. behind_first room k q d es (slice_cmp nat_cmp q k) a.0 refl (h q)))

deepest : (room : ℕ) (q k : List ℕ) (d : Data) (es : Entries) (o : Ordering) → (is_deep_at room q es ≡ true → room < entries_depth es)
    → is_deeper room (match_ordering o (find_entry q es) (Some d) (find_entry q es)) ≡ true → room < entries_depth (entry k d es)
deepest room q k d es Less more h = omega (arith, more h)
deepest room q k d es Equal more h = omega (arith, ltb-true room (depth d) h)
deepest room q k d es Greater more h = omega (arith, more h)

pub some_deep : (room : ℕ) (q : List ℕ) (es : Entries) → is_deep_at room q es ≡ true → room < entries_depth es
some_deep room q no_entries h = absurd cc
some_deep room q (entry k d es) h = deepest room q k d es (slice_cmp nat_cmp q k) (some_deep room q es) h
