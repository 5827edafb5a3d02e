use Rattle.std.proofs.Common.{◌≡◌, ◌≤◌, ◌<◌, [], ◌∷◌, ◌++◌, true, length, get_or, string_bytes, nat_lt, sym, ap, ◌∙◌, subst, append_assoc, arith, rules}
use Rattle.std.proofs.lemmas.Bool.{and_parts}
use Rattle.message_tree.specs.Data.{depth, entries_depth, items_depth, is_carried, items_carried, entries_carried}
use Rattle.message_tree.specs.View.{view, dict_view, items_view, entries_view}
use Rattle.message_tree.proofs.Lemmas.{depth_at, items_from}
use Rattle.msgpack_codec.specs.Short.{short, has_short, entries_have_short, entries_short, text_head}
use Rattle.msgpack_codec.proofs.Members.{Entry, depth_within, both_pass}
use Rattle.msgpack_codec.proofs.encoder.+write.Goals as goal

pub write_items-encode_into-requires : goal.write_items-encode_into-requires
write_items-encode_into-requires t c =
    let l = c.loop-item in
    let ts = c.args.items.now.items in
    let i = l.item-index in
    let read : c.deref-item-items.result.now ≡ ts = c.deref-item-items.ensures.value in
    let inside : i < length ts = omega (arith, ap length read, c.loop-item-test.true) in
    let is : c.item-item.result ≡ get_or ts i c.item-item.result = c.item-item.is ∙ ap (λ xs. get_or xs i c.item-item.result) read in
    let within : depth (view c.item-item.result) ≤ items_depth (items_view ts) =
    subst (λ x. depth (view x) ≤ items_depth (items_view ts)) (sym is) (depth_at ts i c.item-item.result inside) in
    let carried = ap items_carried (sym (items_from ts i c.item-item.result inside)) ∙ l.invariant.carried in
    (omega (arith, within, c.decreases), ap (λ x. is_carried (view x)) is ∙ (and_parts _ _ carried).0)

pub write_entries-encode_into-requires : goal.write_entries-encode_into-requires
write_entries-encode_into-requires t c =
    let l = c.loop-key in
    let e : Entry = (c.in-Some.key.now, c.in-Some.tree.now) in
    let left = c.next.new.self in
    let here = c.in-Some.ensures.steps in
    let all : dict_view c.args.dict.now ≡ entries_view (l.invariant.done ++ e ∷ left) = l.invariant.all ∙ ap (λ es. entries_view (l.invariant.done ++ es)) here in
    let within : depth (view e.1) ≤ entries_depth (dict_view c.args.dict.now) = rw all (depth_within l.invariant.done e left) in
    let carried : entries_carried (entries_view (e ∷ left)) ≡ true = ap (λ es. entries_carried (entries_view es)) (sym here) ∙ l.invariant.carried in
    (omega (arith, within, c.decreases), (and_parts _ _ carried).0)

pub write_entries-loop-key-preserved : goal.write_entries-loop-key-preserved
write_entries-loop-key-preserved t c =
    let l = c.loop-key in
    let done = l.invariant.done in
    let e : Entry = (c.in-Some.key.now, c.in-Some.tree.now) in
    let left = c.next.new.self in
    let here = c.in-Some.ensures.steps in
    let all : dict_view c.args.dict.now ≡ entries_view (done ++ e ∷ left) = l.invariant.all ∙ ap (λ es. entries_view (done ++ es)) here in
    let carried : entries_carried (entries_view (e ∷ left)) ≡ true = ap (λ es. entries_carried (entries_view es)) (sym here) ∙ l.invariant.carried in
    let text = c.in_ok-put_text.ensures.ok ∙ ap (λ s. l.out.since ++ (text_head (length s) ++ s)) c.as_str-in-loop-key.ensures.value in
    let grown = c.in_ok-encode_into.ensures.ok ∙ ap (λ o. o ++ short (view e.1)) text in
    let joined : c.encode_into.new.out.since ++ entries_short (entries_view left) ≡ l.out.since ++ entries_short (entries_view (e ∷ left)) = ap (λ o. o ++ entries_short (entries_view left)) grown ∙ simp append_assoc in
    let short_key : nat_lt (length (string_bytes e.0)) 4294967296 ≡ true = ap (λ s. nat_lt (length s) 4294967296) (sym c.as_str.ensures.value) ∙ search rules in
    let one : has_short (view e.1) ≡ true = c.in_ok-encode_into.ensures.fits in
    record {
      done = done ++ e ∷ [];
      all = all ∙ ap entries_view (sym (append_assoc done (e ∷ []) left));
      written = joined ∙ ap (λ es. l.out.since ++ entries_short (entries_view es)) (sym here) ∙ l.invariant.written;
      carried = (and_parts _ _ carried).1;
      fits = l.invariant.fits ∙ ap (λ es. entries_have_short (entries_view es)) here ∙ both_pass _ _ _ short_key one;
      before = search rules;
    }
