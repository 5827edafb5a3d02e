-- The least spelling writes the tree itself, pair by pair.
use Rattle.std.proofs.Common.{◌≡◌, ℕ, zero, suc, ◌^◌, ◌≤◌, ◌<◌, Bool, true, false, ◌&&◌, List, [], ◌∷◌, ◌++◌, length, refl, sym, ap, ◌∙◌, subst, append_assoc, arith}
use Rattle.std.proofs.lemmas.Bool.{and_parts, ltb-true}
use Rattle.message_tree.specs.Data as tree
use Rattle.message_tree.proofs.Lemmas.{joined-none}
use Rattle.msgpack_codec.specs.declared.format.Form.{Form}
use Rattle.msgpack_codec.specs.declared.format.Form.TheVariants as forms
use Rattle.msgpack_codec.specs.Format.{form_of}
use Rattle.msgpack_codec.specs.Values.{keep_entry, is_text}
use Rattle.msgpack_codec.specs.Short.{text_head, short, items_short, entries_short, item_count, has_short, items_have_short, entries_have_short}
use Rattle.msgpack_codec.specs.Grammar.{IsSize, AreSpelled, ArePairsSpelled, map_from, IsNest, Spells}
use Rattle.msgpack_codec.specs.Written.{map_written, IsWrittenNest, Writes}
use Rattle.msgpack_codec.proofs.Members.{middle_of, last_of}
use Rattle.msgpack_codec.proofs.ShortIsSpelled.{text_spelled, bytes_spelled, whole_spelled, flag_spelled, null_spelled, list_head_is, dict_head_is, list_of, items_of-list_of, length-list_of, pairs_of, length-pairs_of}
use Rattle.msgpack_codec.proofs.Fine.{Fine, AreFine, HasFine}

-- a tree with nothing inside, that is carried
abbrev IsSingle : tree.Data → Type 0
IsSingle tree.null = Unit {0}
IsSingle (tree.flag b) = Unit {0}
IsSingle (tree.whole z) = Unit {0}
IsSingle (tree.text s) = Unit {0}
IsSingle (tree.bytes b) = Unit {0}
IsSingle (tree.list ds) = ⊥
IsSingle (tree.dict es) = ⊥
IsSingle tree.uncarried = ⊥

map_many : (found : tree.Entries) (texts : Bool) (ps : List (tree.Data × tree.Data)) → IsSingle (map_from found texts ps) → ⊥
map_many found true [] h = h
map_many found false [] h = h
map_many found texts (p ∷ ps) h = map_many (keep_entry p.0 p.1 found) (texts && is_text p.0) ps h

nest_single : (room : ℕ) (form : Form) (o : List ℕ) (d : tree.Data) → IsSingle d → IsNest (Spells room) form o d → IsWrittenNest (Writes room) form o d
nest_single room forms.Null o d s h = h
nest_single room (forms.Flag b) o d s h = h
nest_single room (forms.Whole z) o d s h = h
nest_single room (forms.Unsigned w) o d s h = h
nest_single room (forms.Signed w) o d s h = h
nest_single room (forms.Text size) o d s h = h
nest_single room (forms.Bytes size) o d s h = h
nest_single room (forms.List size) o d s h = absurd (subst IsSingle h.6 s)
nest_single room (forms.Dict size) o d s h = absurd (map_many tree.no_entries true h.2 (subst IsSingle h.6 s))
nest_single room (forms.Foreign size) o d s h = h
nest_single room (forms.Float w) o d s h = h
nest_single room forms.Never o d s h = h

single_written : (room : ℕ) (f : List ℕ) (d : tree.Data) → IsSingle d → Spells room f d → Writes room f d
unfolding Spells Writes
single_written zero [] d s h = h
single_written zero (c ∷ f) d s h = h
single_written (suc room) [] d s h = h
single_written (suc room) (c ∷ f) d s h = nest_single room (form_of c) f d s h

joined-next : (found : tree.Entries) (k : List ℕ) (d : tree.Data) (es : tree.Entries) → tree.joined (tree.joined found (tree.entry k d tree.no_entries)) es ≡ tree.joined found (tree.entry k d es)
joined-next tree.no_entries k d es = refl
joined-next (tree.entry l e found) k d es = ap (tree.entry l e) (joined-next found k d es)

map_written-pairs_of : (found es : tree.Entries) → map_written found true (pairs_of es) ≡ tree.dict (tree.joined found es)
map_written-pairs_of found tree.no_entries = ap tree.dict (sym (joined-none found))
map_written-pairs_of found (tree.entry k d es) = map_written-pairs_of (tree.joined found (tree.entry k d tree.no_entries)) es ∙ ap tree.dict (joined-next found k d es)

as_octets : (room : ℕ) (x y : List ℕ) (d : tree.Data) → x ≡ y → Writes room y d → Writes room x d
as_octets room x y d e h = subst (λ o. Writes room o d) (sym e) h

list_written : (room : ℕ) (ds : tree.Items) → item_count ds < 2 ^ 32 → AreSpelled (Writes room) (items_short ds) (list_of ds) → Writes (suc room) (short (tree.list ds)) (tree.list ds)
unfolding Writes
list_written room ds lt h =
    let head = list_head_is (item_count ds) lt in
    let d = tree.list ds in
    let body : IsWrittenNest (Writes room) (forms.List head.1) (head.2 ++ items_short ds) d =
    (head.2, items_short ds, list_of ds, subst (λ n. IsSize head.1 head.2 n) (sym (length-list_of ds)) head.5, refl, h, ap tree.list (sym (items_of-list_of ds))) in
    as_octets (suc room) _ (head.0 ∷ (head.2 ++ items_short ds)) d (ap (λ x. x ++ items_short ds) head.3) (subst (λ f. IsWrittenNest (Writes room) f (head.2 ++ items_short ds) d) (sym head.4) body)

dict_written : (room : ℕ) (es : tree.Entries) → tree.entry_count es < 2 ^ 32 → ArePairsSpelled (Writes room) (entries_short es) (pairs_of es) → Writes (suc room) (short (tree.dict es)) (tree.dict es)
unfolding Writes
dict_written room es lt h =
    let head = dict_head_is (tree.entry_count es) lt in
    let d = tree.dict es in
    let body : IsWrittenNest (Writes room) (forms.Dict head.1) (head.2 ++ entries_short es) d =
    (head.2, entries_short es, pairs_of es, subst (λ n. IsSize head.1 head.2 n) (sym (length-pairs_of es)) head.5, refl, h, sym (map_written-pairs_of tree.no_entries es)) in
    as_octets (suc room) _ (head.0 ∷ (head.2 ++ entries_short es)) d (ap (λ x. x ++ entries_short es) head.3) (subst (λ f. IsWrittenNest (Writes room) f (head.2 ++ entries_short es) d) (sym head.4) body)

mutual
  pub short_written : (d : tree.Data) (room : ℕ) → Fine d → tree.is_carried d ≡ true → has_short d ≡ true → tree.depth d ≤ room → Writes room (short d) d
  short_written tree.null room s c h le = single_written room _ tree.null tt (null_spelled room)
  short_written (tree.flag b) room s c h le = single_written room _ (tree.flag b) tt (flag_spelled room b)
  short_written (tree.whole z) room s c h le = single_written room _ (tree.whole z) tt (whole_spelled room z c)
  short_written (tree.text t) room s c h le = single_written room _ (tree.text t) tt (text_spelled room t s (ltb-true (length t) (2 ^ 32) h))
  short_written (tree.bytes b) room s c h le = single_written room _ (tree.bytes b) tt (bytes_spelled room b (ltb-true (length b) (2 ^ 32) h))
  short_written (tree.list ds) zero s c h le = absurd (omega arith)
  short_written (tree.list ds) (suc room) s c h le =
      list_written room ds (ltb-true (item_count ds) (2 ^ 32) (and_parts _ _ h).0) (items_written ds room s c (and_parts _ _ h).1 (omega arith))
  short_written (tree.dict es) zero s c h le = absurd (omega arith)
  short_written (tree.dict es) (suc room) s c h le =
      dict_written room es (ltb-true (tree.entry_count es) (2 ^ 32) (and_parts _ _ h).0) (entries_written es room s.0 c (and_parts _ _ h).1 (omega arith))
  short_written tree.uncarried room s c h le = absurd cc

  items_written : (ds : tree.Items) (room : ℕ) → AreFine ds → tree.items_carried ds ≡ true → items_have_short ds ≡ true → tree.items_depth ds ≤ room → AreSpelled (Writes room) (items_short ds) (list_of ds)
  items_written tree.no_items room s c h le = refl
  items_written (tree.item d ds) room s c h le =
      (short d, items_short ds, refl, short_written d room s.0 (and_parts _ _ c).0 (and_parts _ _ h).0 (omega arith), items_written ds room s.1 (and_parts _ _ c).1 (and_parts _ _ h).1 (omega arith))

  entries_written : (es : tree.Entries) (room : ℕ) → HasFine es → tree.entries_carried es ≡ true → entries_have_short es ≡ true → tree.entries_depth es ≤ room → ArePairsSpelled (Writes room) (entries_short es) (pairs_of es)
  entries_written tree.no_entries room s c h le = refl
  entries_written (tree.entry k d es) room s c h le = (
    text_head (length k) ++ k,
    short d,
    entries_short es,
    sym (append_assoc (text_head (length k)) k (short d ++ entries_short es)),
    single_written room _ (tree.text k) tt (text_spelled room k s.0 (ltb-true (length k) (2 ^ 32) (and_parts _ _ h).0)),
    short_written d room s.1 (and_parts _ _ c).0 (middle_of _ _ _ h) (omega arith),
    entries_written es room s.2 (and_parts _ _ c).1 (last_of _ _ _ h) (omega arith),
  )
