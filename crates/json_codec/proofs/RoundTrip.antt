-- What is printed for a sound and carried tree is read as the value that stands for it.
use Rattle.std.proofs.Common.{◌≡◌, ◌≤◌, ℕ, suc, max, pos, negsuc, List, [], true, Option, Some, option_map, option_and_then, refl, sym, ap, ap₂, ◌∙◌, subst, arith, append-nil}
use Rattle.std.proofs.lemmas.Bool.{and_parts, ltb-true}
use Rattle.json.specs.Json as printed
use Rattle.json.specs.Lex.{tokens}
use Rattle.json.specs.Token.{Token}
use Rattle.json.specs.Tree as printed_tree
use Rattle.json.proofs.Printed.Trees.{value-json_tokens}
use Rattle.serde_json.specs.Data as json
use Rattle.serde_json.specs.Read.{of_json, of_items, of_members, read}
use Rattle.serde_json.specs.Written.{outline, items_outline, members_outline}
use Rattle.serde_json.proofs.Numbers.{number_of-decimal, number_of-negative}
use Rattle.message_tree.specs.Data as tree
use Rattle.message_tree.specs.Data.{joined, IsBelow}
use Rattle.message_tree.proofs.Lemmas.{joined-none, below-next, next-put}
use Rattle.json_codec.specs.Encoder.{value_of, items_value, entries_value}
use Rattle.json_codec.proofs.Laws.{depth-value_of}

mutual
  depth-outline : (d : json.Data) → printed_tree.depth (outline d) ≡ json.depth d
  depth-outline json.null = refl
  depth-outline (json.boolean b) = refl
  depth-outline (json.number n) = refl
  depth-outline (json.string s) = refl
  depth-outline (json.array ds) = ap suc (depth-items_outline ds)
  depth-outline (json.object ms) = ap suc (depth-members_outline ms)

  depth-items_outline : (ds : json.Items) → printed_tree.items_depth (items_outline ds) ≡ json.items_depth ds
  depth-items_outline json.no_items = refl
  depth-items_outline (json.item d ds) = ap₂ max (depth-outline d) (depth-items_outline ds)

  depth-members_outline : (ms : json.Members) → printed_tree.members_depth (members_outline ms) ≡ json.members_depth ms
  depth-members_outline json.no_members = refl
  depth-members_outline (json.member k d ms) = ap₂ max (depth-outline d) (depth-members_outline ms)

-- a member whose key is above those before it goes last
put_last : (done : tree.Entries) (k : List ℕ) (d : tree.Data) → IsBelow done k → json.put k (value_of d) (entries_value done) ≡ entries_value (tree.put k d done)
put_last tree.no_entries k d below = refl
put_last (tree.entry l e done) k d below = rw below.0 (ap (json.member l (value_of e)) (put_last done k d below.1))

mutual
  of_json-outline : (d : tree.Data) → tree.IsSound d → tree.is_carried d ≡ true → of_json (outline (value_of d)) ≡ Some (value_of d)
  of_json-outline tree.null s c = refl
  of_json-outline (tree.flag b) s c = refl
  of_json-outline (tree.whole (pos n)) s c = ap (option_map json.number) (number_of-decimal n (ltb-true _ _ c))
  of_json-outline (tree.whole (negsuc n)) s c = ap (option_map json.number) (number_of-negative n (ltb-true _ _ c))
  of_json-outline (tree.text t) s c = refl
  of_json-outline (tree.bytes b) s c = refl
  of_json-outline (tree.list ds) s c = ap (option_map json.array) (of_items-outline ds s c)
  of_json-outline (tree.dict es) s c = ap (option_map json.object) (of_members-outline tree.no_entries es s.0 s.1 c)
  of_json-outline tree.uncarried s c = absurd (cc)

  of_items-outline : (ds : tree.Items) → tree.AreSound ds → tree.items_carried ds ≡ true → of_items (items_outline (items_value ds)) ≡ Some (items_value ds)
  of_items-outline tree.no_items s c = refl
  of_items-outline (tree.item d ds) s c =
      ap (option_and_then (λ v. option_map (json.item v) (of_items (items_outline (items_value ds))))) (of_json-outline d s.0 (and_parts _ _ c).0)
      ∙ ap (option_map (json.item (value_of d))) (of_items-outline ds s.1 (and_parts _ _ c).1)

  of_members-outline : (done es : tree.Entries) → tree.HasSoundEntries es → tree.IsAscending (joined done es) → tree.entries_carried es ≡ true
      → of_members (members_outline (entries_value es)) (entries_value done) ≡ Some (entries_value (joined done es))
  of_members-outline done tree.no_entries s a c = ap (λ es. Some (entries_value es)) (sym (joined-none done))
  of_members-outline done (tree.entry k d es) s a c =
      let rest = members_outline (entries_value es) in
      let next : joined done (tree.entry k d es) ≡ joined (tree.put k d done) es = next-put done k d es (joined done (tree.entry k d es)) refl a in
      ap (option_and_then (λ v. of_members rest (json.put k v (entries_value done)))) (of_json-outline d s.1 (and_parts _ _ c).0)
      ∙ ap (of_members rest) (put_last done k d (below-next done k d es a))
      ∙ of_members-outline (tree.put k d done) es s.2 (subst tree.IsAscending next a) (and_parts _ _ c).1
      ∙ ap (λ all. Some (entries_value all)) (sym next)

abbrev whole : Option (printed.Json × List Token) → Option json.Data
whole o = option_and_then of_json (option_and_then (λ p. printed.if_last p.0 p.1) o)

-- the text whose tokens are those of the tree's value is read as that value
pub read-outline : (d : tree.Data) (text : List ℕ) → tree.IsSound d → tree.is_carried d ≡ true → tree.depth d ≤ 127
    → tokens text ≡ printed_tree.json_tokens (outline (value_of d)) → read text ≡ Some (value_of d)
read-outline d text s c shallow same =
    let j = outline (value_of d) in
    let room : printed_tree.depth j ≤ 127 = omega (arith, depth-outline (value_of d), depth-value_of d, shallow) in
    ap whole (ap (printed.value 127) (same ∙ sym (append-nil (printed_tree.json_tokens j))) ∙ value-json_tokens j 127 [] room) ∙ of_json-outline d s c
