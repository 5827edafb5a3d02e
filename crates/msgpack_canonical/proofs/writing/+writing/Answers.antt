use Rattle.std.proofs.Common.{◌≡◌, ◌-◌, ◌+◌, ◌^◌, ◌&&◌, ℕ, List, [], ◌++◌, true, cond, ltb, reverse, length, IfOk, Ok, refl, sym, ap, ◌∙◌, subst, arith}
use Rattle.std.specs.Prelude.{IfSome, IfNone}
use Rattle.std.specs.List.{All}
use Rattle.std.proofs.lemmas.Bool.{and_parts}
use Rattle.std.proofs.lemmas.List.{append-nil}
use Rattle.message_tree.specs.Data as tree
use Rattle.msgpack_codec.specs.Short.{short, item_count, list_head, dict_head, items_short, text_head}
use Rattle.msgpack_codec.specs.Tokens.{IsToken}
use Rattle.msgpack_codec.specs.Values.{is_text, keep_entry}
use Rattle.msgpack_codec.specs.body.Tokens.{data_of}
use Rattle.msgpack_codec.specs.body.Decoder.{value_at, push_item, items_at, dict_at}
use Rattle.msgpack_codec.proofs.Judgements.{item_count-push}
use Rattle.msgpack_codec.proofs.Loops.{one-left, none-left, item-read, items-read, entry-read, dict-read}
use Rattle.msgpack_codec.proofs.PairLoops.{list-read}
use Rattle.msgpack_canonical.specs.body.Fitting.{fits, items_fit, IsPut, IsUnread}
use Rattle.msgpack_canonical.specs.body.Entries.{AreKept, AreRead, IsPlaced, IsStanding, IsEntryPut, IsNoEntry, cuts, kept, place_cmp}
use Rattle.msgpack_canonical.specs.body.Sorting.{in_order}
use Rattle.msgpack_canonical.proofs.Fronts.{list-read-inside, dict-read-inside, list-too_deep, dict-too_deep}
use Rattle.msgpack_canonical.proofs.Tokens.{leaf-token-read, no-token}
use Rattle.std.proofs.Math.Bool.{and-true, and_assoc}
use Rattle.msgpack_canonical.proofs.Lists.{regrouped, items_fit-push, items_short-push, list-unread}
use Rattle.msgpack_canonical.proofs.Dicts.{value-unread}
use Rattle.msgpack_canonical.proofs.Parts.{put_octets, put-entry, put-behind}
use Rattle.msgpack_canonical.proofs.Sizes.{dict-put}
use Rattle.msgpack_canonical.proofs.Kept.{kept-text, kept-none, none-kept}
use Rattle.msgpack_canonical.proofs.writing.+writing.Goals.{entries_of-then-entry+in_ok-add_place, entries_of-else-entry, put_any_dict-then-are_texts+in_ok-is_written, put_any_dict-else-are_texts, put_entry-then-put, put_entry-else-put}
use Rattle.msgpack_canonical.proofs.writing.+writing.Goals as goal

-- ---- values

pub put_value-returns-in_default-clause-none : goal.put_value-returns-in_default-clause-none
put_value-returns-in_default-clause-none t c = λ d rest e. no-token c.args.room c.args.octets.now c.in_default.ensures.err d rest e

pub put_value-returns-then-room-eq0-clause-none : goal.put_value-returns-then-room-eq0-clause-none
put_value-returns-then-room-eq0-clause-none t c = λ d rest e.
    let octets = c.args.octets.now in
    let head = subst (λ x. IsToken x octets c.in-Ok.rest.now) c.in-List.ensures c.in-Ok.ensures.ok in
    list-too_deep c.in-List.count octets c.in-Ok.rest.now head d rest (ap (λ room. value_at room octets) (sym c.if-room-eq0.true) ∙ e)

pub put_value-returns-then-room-eq0-2-clause-none : goal.put_value-returns-then-room-eq0-2-clause-none
put_value-returns-then-room-eq0-2-clause-none t c = λ d rest e.
    let octets = c.args.octets.now in
    let head = subst (λ x. IsToken x octets c.in-Ok.rest.now) c.in-Dict.ensures c.in-Ok.ensures.ok in
    dict-too_deep c.in-Dict.count octets c.in-Ok.rest.now head d rest (ap (λ room. value_at room octets) (sym c.if-room-eq0-2.true) ∙ e)

pub put_value-returns-else-room-eq0-clause-some : goal.put_value-returns-else-room-eq0-clause-some
put_value-returns-else-room-eq0-clause-some t c =
    let octets = c.args.octets.now in
    let head = subst (λ x. IsToken x octets c.in-Ok.rest.now) c.in-List.ensures c.in-Ok.ensures.ok in
    let same = list-read-inside c.args.room c.in-List.count octets c.in-Ok.rest.now (omega (arith, c.if-room-eq0.false)) head in
    subst (λ read. IfOk c.put_list.result (λ o. IfSome o (λ p. IsPut read p.rest.now p.is_written c.args.out.now.since c.put_list.new.out.since))) (sym same) c.put_list.ensures.some

pub put_value-returns-else-room-eq0-clause-none : goal.put_value-returns-else-room-eq0-clause-none
put_value-returns-else-room-eq0-clause-none t c =
    let octets = c.args.octets.now in
    let head = subst (λ x. IsToken x octets c.in-Ok.rest.now) c.in-List.ensures c.in-Ok.ensures.ok in
    let same = list-read-inside c.args.room c.in-List.count octets c.in-Ok.rest.now (omega (arith, c.if-room-eq0.false)) head in
    subst (λ read. IfOk c.put_list.result (λ o. IfNone o (IsUnread read))) (sym same) c.put_list.ensures.none

pub put_value-returns-else-room-eq0-2-clause-some : goal.put_value-returns-else-room-eq0-2-clause-some
put_value-returns-else-room-eq0-2-clause-some t c =
    let octets = c.args.octets.now in
    let head = subst (λ x. IsToken x octets c.in-Ok.rest.now) c.in-Dict.ensures c.in-Ok.ensures.ok in
    let same = dict-read-inside c.args.room c.in-Dict.count octets c.in-Ok.rest.now (omega (arith, c.if-room-eq0-2.false)) head in
    subst (λ read. IfOk c.put_dict.result (λ o. IfSome o (λ p. IsPut read p.rest.now p.is_written c.args.out.now.since c.put_dict.new.out.since))) (sym same) c.put_dict.ensures.some

pub put_value-returns-else-room-eq0-2-clause-none : goal.put_value-returns-else-room-eq0-2-clause-none
put_value-returns-else-room-eq0-2-clause-none t c =
    let octets = c.args.octets.now in
    let head = subst (λ x. IsToken x octets c.in-Ok.rest.now) c.in-Dict.ensures c.in-Ok.ensures.ok in
    let same = dict-read-inside c.args.room c.in-Dict.count octets c.in-Ok.rest.now (omega (arith, c.if-room-eq0-2.false)) head in
    subst (λ read. IfOk c.put_dict.result (λ o. IfNone o (IsUnread read))) (sym same) c.put_dict.ensures.none

pub put_value-returns-in_ok-is_written-in-Leaf-clause-some : goal.put_value-returns-in_ok-is_written-in-Leaf-clause-some
put_value-returns-in_ok-is_written-in-Leaf-clause-some t c = (
  data_of c.in-Ok.token,
  leaf-token-read c.args.room c.in-Ok.token c.args.octets.now c.in-Ok.rest.now c.in-Leaf.ensures c.in-Ok.ensures.ok,
  c.in_ok-is_written-in-Leaf.ensures.fits,
  c.in_ok-is_written-in-Leaf.ensures.written,
)

-- ---- lists

pub put_list-loop-init : goal.put_list-loop-init
put_list-loop-init t c = record {
  found = tree.no_items;
  read = let e : c.args.count - 0 ≡ c.args.count = omega arith in ap (λ n. items_at (value_at c.args.room) n tree.no_items c.args.octets.now) e;
  many = refl;
  fit = c.in_ok-is_written.ensures.fits ∙ sym (and-true (ltb c.args.count 4294967296));
  written = λ is. c.in_ok-is_written.ensures.ok is ∙ ap (λ o. c.args.out.now.since ++ o) (sym (append-nil (list_head c.args.count)));
  before = c.put_fitting_list_head.ensures.before;
}

pub put_list-returns-in_default-clause-none : goal.put_list-returns-in_default-clause-none
put_list-returns-in_default-clause-none t c =
    let l = c.loop in
    let value = value_at c.args.room in
    let found = l.invariant.found in
    let left = one-left (λ n. items_at value n found l.rest.now) c.args.count l.counter c.loop-test.true ∙ l.invariant.read in
    list-unread value c.args.count c.args.octets.now _ found l.rest.now left (subst (λ o. IfNone o (IsUnread (value l.rest.now))) c.in_default.is c.in_ok-put.ensures.none)

pub put_list-loop-preserved : goal.put_list-loop-preserved
put_list-loop-preserved t c =
    let l = c.loop in
    let value = value_at c.args.room in
    let found = l.invariant.found in
    let put = subst (λ o. IfSome o (λ p. IsPut (value l.rest.now) p.rest.now p.is_written l.out.since c.put_value.new.out.since)) c.in-Some.is c.in_ok-put.ensures.some in
    record {
      found = push_item found put.0;
      read = item-read value _ found l.rest.now put.0 c.in-Some.put.rest.now put.1 ∙ (one-left (λ n. items_at value n found l.rest.now) c.args.count l.counter c.loop-test.true ∙ l.invariant.read);
      many = omega (arith, item_count-push found put.0, l.invariant.many);
      fit = c.both-is_written.ensures ∙ (ap (λ b. b && c.in-Some.put.is_written) l.invariant.fit ∙ (ap (λ b. (ltb c.args.count (2 ^ 32) && items_fit found) && b) put.2
          ∙ (and_assoc (ltb c.args.count (2 ^ 32)) (items_fit found) (fits put.0) ∙ ap (λ b. ltb c.args.count (2 ^ 32) && b) (sym (items_fit-push found put.0)))));
      written = λ is.
          let both = and_parts l.is_written c.in-Some.put.is_written (sym c.both-is_written.ensures ∙ is) in
          put.3 both.1 ∙ (ap (λ (o : List ℕ). o ++ short put.0) (l.invariant.written both.0)
          ∙ (regrouped c.args.out.now.since (list_head c.args.count) (items_short found) (short put.0) ∙ ap (λ o. c.args.out.now.since ++ (list_head c.args.count ++ o)) (sym (items_short-push found put.0))));
      before = c.put_value.ensures.before ∙ l.invariant.before;
    }

pub put_list-returns-clause-some : goal.put_list-returns-clause-some
put_list-returns-clause-some t c =
    let l = c.loop in
    let value = value_at c.args.room in
    let found = l.invariant.found in
    let count : item_count found ≡ c.args.count = omega (arith, l.invariant.many) in (
      tree.list found,
      list-read value c.args.count c.args.octets.now found l.rest.now (sym (items-read value found l.rest.now ∙ (none-left (λ n. items_at value n found l.rest.now) c.args.count l.counter c.loop-test.false ∙ l.invariant.read))),
      l.invariant.fit ∙ ap (λ n. ltb n (2 ^ 32) && items_fit found) (sym count),
      λ is. l.invariant.written is ∙ ap (λ n. c.args.out.now.since ++ (list_head n ++ items_short found)) (sym count),
    )

-- ---- entries

pub entries_of-loop-init : goal.entries_of-loop-init
entries_of-loop-init t c = record {
  found = tree.no_entries;
  read = let e : c.args.count - 0 ≡ c.args.count = omega arith in ap (λ n. dict_at (value_at c.args.room) n tree.no_entries true c.args.octets.now) e;
  kept = none-kept c.in_ok-written.written.items c.in_ok-places.places.items c.in_ok-places.ensures.items;
}

pub entries_of-returns-in_default-clause-none : goal.entries_of-returns-in_default-clause-none
entries_of-returns-in_default-clause-none t c = λ d rest e.
    let l = c.loop in
    let value = value_at c.args.room in
    let found = l.invariant.found in
    let left = one-left (λ n. dict_at value n found l.are_texts l.rest.now) c.args.count l.counter c.loop-test.true ∙ l.invariant.read in
    let none = subst (λ o. IfNone o (IsNoEntry value l.rest.now)) c.in_default.is c.in_ok-entry.ensures.none in
    none _ found l.are_texts d rest (left ∙ e)

pub entries_of-loop-preserved : goal.entries_of-loop-preserved
entries_of-loop-preserved t c =
    let l = c.loop in
    let value = value_at c.args.room in
    let found = l.invariant.found in
    let put = subst (λ o. IfSome o (λ e. IsEntryPut value l.rest.now e.rest.now e.is_text l.written.items e.written.items)) c.in-Some.is c.in_ok-entry.ensures.some in
    let texts : c.both-are_texts.result ≡ (l.are_texts && is_text put.key) = c.both-are_texts.ensures ∙ ap (λ b. l.are_texts && b) put.text in
    record {
      found = keep_entry put.key put.meant found;
      read = ap (λ b. dict_at value (c.args.count - (l.counter + 1)) (keep_entry put.key put.meant found) b c.in-Some.entry.rest.now) texts
          ∙ (entry-read value _ found l.are_texts l.rest.now put.key put.meant put.middle c.in-Some.entry.rest.now put.key_read put.value_read
          ∙ (one-left (λ n. dict_at value n found l.are_texts l.rest.now) c.args.count l.counter c.loop-test.true ∙ l.invariant.read));
      kept = elim c.if-entry.branch [
        | entries_of-then-entry+in_ok-add_place w ↦
            let placed = subst (λ v. IsPlaced c.len-start.result w.len.result l.places.items v.items) (sym w.places-is) w.in_ok-add_place.ensures in
            kept-text l.written.items l.places.items c.if-entry.places.items found put.key put.meant put.more c.in-Some.entry.written.items c.len-start.result w.len.result put.added
            (sym put.text ∙ w.if-entry.true) put.entry placed (omega (arith, c.len-start.ensures, l.written.ok)) (omega (arith, w.len.ensures, c.in-Some.entry.written.ok)) l.invariant.kept
        | entries_of-else-entry w ↦
            kept-none l.written.items (reverse c.if-entry.places.items) found put.key put.meant put.more c.in-Some.entry.written.items put.added (sym put.text ∙ w.if-entry.false)
            (subst (λ v. AreKept l.written.items (reverse v.items) found) (sym w.places-is) l.invariant.kept)
      ];
    }

pub entries_of-returns-clause-some : goal.entries_of-returns-clause-some
entries_of-returns-clause-some t c =
    let l = c.loop in
    let value = value_at c.args.room in
    let found = l.invariant.found in
    record {
      entries = found;
      read = sym (dict-read value found l.are_texts l.rest.now ∙ (none-left (λ n. dict_at value n found l.are_texts l.rest.now) c.args.count l.counter c.loop-test.false ∙ l.invariant.read));
      kept_at = l.invariant.kept;
    }

pub put_entry-returns-in_default-2-clause-none : goal.put_entry-returns-in_default-2-clause-none
put_entry-returns-in_default-2-clause-none t c =
    value-unread (value_at c.args.room) c.args.octets.now (tree.text c.in-Some-first_text.key.now) c.in-Some-first_text.value.now (c.in-Some-first_text.ensures.some c.args.room)
    (subst (λ o. IfNone o (IsUnread (value_at c.args.room c.in-Some-first_text.value.now))) c.in_default-2.is c.in_ok-put.ensures.none)

pub put_entry-returns-clause-some : goal.put_entry-returns-clause-some
put_entry-returns-clause-some t c =
    let value = value_at c.args.room in
    let key = c.in-Some-first_text.key.now in
    let put = subst (λ o. IfSome o (λ p. IsPut (value c.in-Some-first_text.value.now) p.rest.now p.is_written c.new-out-2.result.since c.put_value.new.out.since)) c.in-Some-2.is c.in_ok-put.ensures.some in
    let has = c.if-not-branch.false in
    let text : c.put_text.new.out.since ≡ text_head (length key) ++ key = c.in_ok-put_text.ensures.written has ∙ ap (λ (o : List ℕ). o ++ (text_head (length key) ++ key)) c.new-out.ensures.since in
    let old = c.args.written.items in
    let before = c.into_vec.result.items in
    let since = c.put_value.new.out.since in
    let b = c.in-Some-2.put.is_written in
    let at : before ≡ old ++ (text_head (length key) ++ key) =
    c.into_vec.ensures ∙ (ap (λ (o : List ℕ). o ++ c.put_text.new.out.since) (c.put_text.ensures.before ∙ c.new-out.ensures.before) ∙ ap (λ o. old ++ o) text) in
    let stays : c.put_value.new.out.before ≡ before = c.put_value.ensures.before ∙ c.new-out-2.ensures.before in
    let new : c.if-put.written.items ≡ before ++ cond b since [] = elim c.if-put.branch [
      | put_entry-then-put w ↦
          subst (λ v. v.items ≡ before ++ cond b since []) (sym w.written-is)
          (w.into_vec-written.ensures ∙ (ap (λ (o : List ℕ). o ++ since) stays ∙ ap (λ b. before ++ cond b since []) (sym w.if-put.true)))
      | put_entry-else-put w ↦
          subst (λ v. v.items ≡ before ++ cond b since []) (sym w.written-is)
          (w.into_before-written.ensures ∙ (stays ∙ (sym (append-nil before) ∙ ap (λ b. before ++ cond b since []) (sym w.if-put.false))))
    ] in
    record {
      key = tree.text key;
      middle = c.in-Some-first_text.value.now;
      meant = put.0;
      more = put_octets key put.0;
      key_read = c.in-Some-first_text.ensures.some c.args.room;
      value_read = put.1;
      text = refl;
      added = put-behind key put.0 old before since c.if-put.written.items b put.2 at new (λ is. put.3 is ∙ ap (λ (o : List ℕ). o ++ short put.0) c.new-out-2.ensures.since);
      entry = put-entry key put.0 (c.in_ok-put_text.ensures.read has (kept put.0)) (sym c.in_ok-put_text.ensures.fits ∙ has);
    }

pub put_any_dict-returns-clause-some : goal.put_any_dict-returns-clause-some
put_any_dict-returns-clause-some t c =
    let value = value_at c.args.room in
    let read = dict_at value c.args.count tree.no_entries true c.args.octets.now in
    let all = subst (λ o. IfSome o (λ e. AreRead read e.are_texts e.written.items e.places.items e.rest.now)) c.in-Some.is c.in_ok-entries.ensures.some in
    let entries = c.in-Some.entries in
    let arrived = reverse entries.places.items in
    let sorted = c.put_in_order.new.places.items in
    let same = c.deref.ensures.value in
    let order : sorted ≡ in_order (place_cmp entries.written.items) arrived = c.in_ok-put_in_order.ensures.order ∙ ap (λ (w : List ℕ). in_order (place_cmp w) arrived) same in
    let stand : All (IsStanding entries.written.items) sorted =
    subst (λ (w : List ℕ). All (IsStanding w) sorted) same (c.in_ok-put_in_order.ensures.stand (subst (λ (w : List ℕ). All (IsStanding w) arrived) (sym same) all.kept_at.stand)) in
    elim c.if-are_texts.branch [
      | put_any_dict-then-are_texts+in_ok-is_written w ↦
          let dict = tree.dict all.entries in
          let done = dict-put entries.written.items arrived sorted all.entries all.kept_at order stand w.deref-then-are_texts.result.now w.deref-then-are_texts-2.result.now c.if-are_texts.is_written c.args.out.now.since
          c.if-are_texts.out.since w.deref-then-are_texts.ensures.value w.deref-then-are_texts-2.ensures.value (w.is_written-is ∙ w.in_ok-is_written.ensures.fits) (λ is. subst (λ o. o.since ≡ c.args.out.now.since ++ (dict_head (length w.deref-then-are_texts-2.result.now) ++ cuts w.deref-then-are_texts.result.now w.deref-then-are_texts-2.result.now)) (sym w.out-is)
          (w.in_ok-is_written.ensures.written (sym w.is_written-is ∙ is))) in
          (dict, all.read ∙ ap (λ b. Ok (cond b dict tree.uncarried, entries.rest.now)) w.if-are_texts.true, done.0, done.1)
      | put_any_dict-else-are_texts w ↦
          (tree.uncarried, all.read ∙ ap (λ b. Ok (cond b (tree.dict all.entries) tree.uncarried, entries.rest.now)) w.if-are_texts.false, w.is_written-is, λ is. let nay = w.is_written-is in absurd cc)
    ]
