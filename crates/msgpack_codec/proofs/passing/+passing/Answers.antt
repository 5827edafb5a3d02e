use Rattle.std.proofs.Common.{◌≡◌, ◌-◌, ℕ, List, [], ◌∷◌, ◌++◌, true, ◌&&◌, cond, option_map, Ok, Err, IfOk, IfErr, refl, sym, ap, ◌∙◌, subst, append_assoc, arith}
use Rattle.std.proofs.lemmas.List.{append_cancel_right}
use Rattle.std.proofs.lemmas.Result.{err_from_is_err_and}
use Rattle.message_tree.specs.Data as tree
use Rattle.msgpack_codec.specs.Format.{form_of}
use Rattle.msgpack_codec.specs.Values.{is_text}
use Rattle.msgpack_codec.specs.declared.format.Form.TheVariants as forms
use Rattle.msgpack_codec.specs.Written.{add_entry}
use Rattle.msgpack_codec.specs.body.Decoder.{push_item, items_at, leaf_at}
use Rattle.msgpack_codec.specs.body.Passing.{IsSeen, IsFullyJudged, written_nest_at, written_at, pairs_at}
use Rattle.msgpack_codec.specs.Short.{item_count}
use Rattle.msgpack_codec.proofs.ReadIsSpelled.{found-is}
use Rattle.msgpack_codec.proofs.WrittenPairs.{written_found}
use Rattle.msgpack_codec.proofs.Judgements.{tells-none, tells-item, item_count-push, AreTold, told-none, told-pair, pairs-judged}
use Rattle.msgpack_codec.proofs.NestJudgements.{of-ok, of-both, as-judged, leaf-judged, nest-of-leaf, list-nest-judged, dict-nest-judged}
use Rattle.msgpack_codec.proofs.Carriages.{items_carriage-push}
use Rattle.msgpack_codec.proofs.Loops.{one-left, none-left, item-read, item-refused, items-read}
use Rattle.msgpack_codec.proofs.PairLoops.{list-read, list-refused, pair-read, key-refused, pair-refused, pairs-read, map-no_text, written-leaf, written-nests}
use Rattle.msgpack_codec.proofs.ShortLeaves.{plain-written, plain-carriage, plain-no_text, plain-least}
use Rattle.msgpack_codec.proofs.ShortTexts.{text-written, text-least}
use Rattle.msgpack_codec.proofs.passing.+passing.Goals as goal

pub items-loop-init : goal.items-loop-init
items-loop-init t c = (tree.no_items, let e : c.args.count - 0 ≡ c.args.count = omega arith in ap (λ n. items_at (written_at c.args.room) n tree.no_items c.args.octets.now) e, refl, ([], refl, refl, tells-none))

pub items-returns-in_err-item-clause-err : goal.items-returns-in_err-item-clause-err
items-returns-in_err-item-clause-err t c =
    let l = c.loop in
    let p = err_from_is_err_and c.from_residual.result c.from_residual.ensures.1 in
    let value = written_at c.args.room in
    let found = l.invariant.0 in
    let rest = l.rest.now in
    rw (p.1, p.2)
    (list-refused value c.args.count c.args.octets.now _
    (sym (item-refused value _ found rest _ c.in_err-item.ensures.err ∙ (one-left (λ n. items_at value n found rest) c.args.count l.counter c.loop-test.true ∙ l.invariant.1))))

pub items-loop-preserved : goal.items-loop-preserved
items-loop-preserved t c =
    let l = c.loop in
    let item = c.in_ok-item.item in
    let seen = c.in_ok-item.ensures.ok in
    let value = written_at c.args.room in
    let found = l.invariant.0 in
    let rest = l.rest.now in (
      push_item found seen.0,
      item-read value _ found rest seen.0 item.rest.now seen.1 ∙ (one-left (λ n. items_at value n found rest) c.args.count l.counter c.loop-test.true ∙ l.invariant.1),
      c.worse-carriage.ensures ∙ rw (l.invariant.2, seen.2) (sym (items_carriage-push found seen.0)),
      let so_far = l.invariant.3 in
          let one = written_found c.args.room rest seen.0 item.rest.now seen.1 in
          let is_next : c.both-is_shortest.result ≡ (l.is_shortest && item.is_shortest) = c.both-is_shortest.ensures in (
            so_far.0 ++ one.0,
            so_far.1 ∙ ap (λ (o : List ℕ). so_far.0 ++ o) one.1 ∙ sym (append_assoc so_far.0 one.0 item.rest.now),
            omega (arith, item_count-push found seen.0, so_far.2),
            rw is_next (tells-item l.is_shortest item.is_shortest found seen.0 so_far.0 one.0 so_far.3 (c.in_ok-item.ensures.shortest seen.0 one.0 seen.1 one.1)),
          ),
    )

pub items-returns-clause-ok : goal.items-returns-clause-ok
items-returns-clause-ok t c =
    let l = c.loop in
    let value = written_at c.args.room in
    let found = l.invariant.0 in
    let read = sym (items-read value found l.rest.now ∙ (none-left (λ n. items_at value n found l.rest.now) c.args.count l.counter c.loop-test.false ∙ l.invariant.1)) in (
      tree.list found,
      rw c.no_text.ensures.rest (list-read value c.args.count c.args.octets.now found l.rest.now read),
      c.no_text.ensures.carriage ∙ l.invariant.2,
      c.no_text.ensures.text,
    )

pub items-returns-clause-shortest : goal.items-returns-clause-shortest
items-returns-clause-shortest t c = λ d body read parts.
    let l = c.loop in
    let value = written_at c.args.room in
    let found = l.invariant.0 in
    let so_far = l.invariant.3 in
    let made = list-read value c.args.count c.args.octets.now found l.rest.now (sym (items-read value found l.rest.now ∙ (none-left (λ n. items_at value n found l.rest.now) c.args.count l.counter c.loop-test.false ∙ l.invariant.1))) in
    let ends : c.args.octets.now ≡ body ++ l.rest.now = rw c.no_text.ensures.rest at parts in
    let same : body ≡ so_far.0 = append_cancel_right body so_far.0 l.rest.now (sym ends ∙ so_far.1) in
    let all : tree.list found ≡ d = (found-is (tree.list found) d l.rest.now c.no_text.result.rest.now (sym made ∙ read)).0 in
    let count : item_count found ≡ c.args.count = omega (arith, so_far.2) in
    rw (same, c.no_text.ensures.shortest) (found, sym all, count, so_far.3)

pub pairs-loop-init : goal.pairs-loop-init
pairs-loop-init t c = (
  tree.no_entries,
  true,
  let e : c.args.count - 0 ≡ c.args.count = omega arith in ap (λ n. pairs_at (written_at c.args.room) n tree.no_entries true c.args.octets.now) e,
  record { texts_are = refl; ascend_is = refl; last_is = refl; carriage_is = refl },
  ([], refl, told-none),
)

pub pairs-returns-in_err-key-clause-err : goal.pairs-returns-in_err-key-clause-err
pairs-returns-in_err-key-clause-err t c =
    let l = c.loop in
    let p = err_from_is_err_and c.from_residual.result c.from_residual.ensures.1 in
    let value = written_at c.args.room in
    let found = l.invariant.0 in
    let texts = l.invariant.1 in
    let rest = l.rest.now in
    rw (p.1, p.2)
    (sym (key-refused value _ found texts rest _ c.in_err-key.ensures.err ∙ (one-left (λ n. pairs_at value n found texts rest) c.args.count l.counter c.loop-test.true ∙ l.invariant.2)))

pub pairs-returns-in_err-item-clause-err : goal.pairs-returns-in_err-item-clause-err
pairs-returns-in_err-item-clause-err t c =
    let l = c.loop in
    let p = err_from_is_err_and c.from_residual-in_err-item.result c.from_residual-in_err-item.ensures.1 in
    let value = written_at c.args.room in
    let found = l.invariant.0 in
    let texts = l.invariant.1 in
    let rest = l.rest.now in
    let key = c.in_ok-key.ensures.ok in
    rw (p.1, p.2)
    (sym (pair-refused value _ found texts rest key.0 c.in_ok-key.key.rest.now _ key.1 c.in_err-item.ensures.err ∙ (one-left (λ n. pairs_at value n found texts rest) c.args.count l.counter c.loop-test.true ∙ l.invariant.2)))

pub pairs-loop-preserved : goal.pairs-loop-preserved
pairs-loop-preserved t c =
    let l = c.loop in
    let value = written_at c.args.room in
    let found = l.invariant.0 in
    let texts = l.invariant.1 in
    let rest = l.rest.now in
    let key = c.in_ok-key.ensures.ok in
    let item = c.in_ok-item.ensures.ok in (
      add_entry key.0 item.0 found,
      texts && is_text key.0,
      pair-read value _ found texts rest key.0 item.0 c.in_ok-key.key.rest.now c.in_ok-item.item.rest.now key.1 item.1
          ∙ (one-left (λ n. pairs_at value n found texts rest) c.args.count l.counter c.loop-test.true ∙ l.invariant.2),
      c.with-known.ensures found texts key.0 item.0 l.invariant.3 key.3 item.2,
      let so_far = l.invariant.4 in
          let one = written_found c.args.room rest key.0 c.in_ok-key.key.rest.now key.1 in
          let other = written_found c.args.room c.in_ok-key.key.rest.now item.0 c.in_ok-item.item.rest.now item.1 in (
            so_far.0 ++ (one.0 ++ other.0),
            so_far.1 ∙ ap (λ (o : List ℕ). so_far.0 ++ o) (one.1 ∙ ap (λ (o : List ℕ). one.0 ++ o) other.1) ∙ simp append_assoc,
            rw (c.both-is_shortest.ensures, c.both.ensures)
                (told-pair texts l.counter l.is_shortest c.in_ok-key.key.is_shortest c.in_ok-item.item.is_shortest found key.0 item.0 so_far.0 one.0 other.0 so_far.2
                (c.in_ok-key.ensures.shortest key.0 one.0 key.1 one.1) (c.in_ok-item.ensures.shortest item.0 other.0 item.1 other.1)),
          ),
    )

pub pairs-returns-clause-ok : goal.pairs-returns-clause-ok
pairs-returns-clause-ok t c =
    let l = c.loop in
    let value = written_at c.args.room in
    let found = l.invariant.0 in
    let texts = l.invariant.1 in
    let read = sym (pairs-read value found texts l.rest.now ∙ (none-left (λ n. pairs_at value n found texts l.rest.now) c.args.count l.counter c.loop-test.false ∙ l.invariant.2)) in (
      cond texts (tree.dict found) tree.uncarried,
      rw c.no_text.ensures.rest read,
      c.no_text.ensures.carriage ∙ c.map_carriage.ensures found texts l.invariant.3,
      c.no_text.ensures.text ∙ map-no_text texts found,
    )

pub pairs-returns-clause-shortest : goal.pairs-returns-clause-shortest
pairs-returns-clause-shortest t c = λ d body read parts.
    let l = c.loop in
    let value = written_at c.args.room in
    let found = l.invariant.0 in
    let texts = l.invariant.1 in
    let known = l.invariant.3 in
    let so_far = l.invariant.4 in
    let made = sym (pairs-read value found texts l.rest.now ∙ (none-left (λ n. pairs_at value n found texts l.rest.now) c.args.count l.counter c.loop-test.false ∙ l.invariant.2)) in
    let ends : c.args.octets.now ≡ body ++ l.rest.now = rw c.no_text.ensures.rest at parts in
    let same : body ≡ so_far.0 = append_cancel_right body so_far.0 l.rest.now (sym ends ∙ so_far.1) in
    let all : cond texts (tree.dict found) tree.uncarried ≡ d = (found-is (cond texts (tree.dict found) tree.uncarried) d l.rest.now c.no_text.result.rest.now (sym made ∙ read)).0 in
    let count : l.counter ≡ c.args.count = omega arith in
    let told = subst (λ n. AreTold texts n l.is_shortest so_far.0 found) count so_far.2 in
    let is : c.no_text.result.is_shortest ≡ (texts && (l.known.ascend && l.is_shortest)) =
    c.no_text.ensures.shortest ∙ c.both-is_shortest-2.ensures ∙ rw (c.both-2.ensures, known.texts_are) refl in
    rw (same, is) (pairs-judged texts c.args.count l.known.ascend l.is_shortest so_far.0 found d told known.ascend_is all)

pub member-returns-in-Some-clause-ok : goal.member-returns-in-Some-clause-ok
member-returns-in-Some-clause-ok t c = (
  tree.text c.in-Some.text.now,
  rw c.short_text_seen.ensures.rest (text-written c.args.octets.now c.in-Some.text.now c.in-Some.rest.now c.in-Some.ensures.spelled c.in-Some.ensures.utf8 c.in-Some.ensures.few c.args.room),
  c.short_text_seen.ensures.carriage,
  c.short_text_seen.ensures.text,
)

pub member-returns-in-Some-clause-shortest : goal.member-returns-in-Some-clause-shortest
member-returns-in-Some-clause-shortest t c =
    rw (c.short_text_seen.ensures.rest, c.short_text_seen.ensures.shortest)
    (text-least c.args.octets.now c.in-Some.text.now c.in-Some.rest.now c.in-Some.ensures.spelled c.in-Some.ensures.utf8 c.in-Some.ensures.few c.args.room)

pub member-returns-in-Some-short_leaf-clause-ok : goal.member-returns-in-Some-short_leaf-clause-ok
member-returns-in-Some-short_leaf-clause-ok t c =
    let h = c.in-Some-short_leaf.ensures in (
      h.meant,
      rw c.no_text.ensures.rest (plain-written c.args.octets.now c.in-Some-short_leaf.rest.now h c.args.room),
      c.no_text.ensures.carriage ∙ plain-carriage h.meant h.plain,
      c.no_text.ensures.text ∙ plain-no_text h.meant h.plain,
    )

pub member-returns-in-Some-short_leaf-clause-shortest : goal.member-returns-in-Some-short_leaf-clause-shortest
member-returns-in-Some-short_leaf-clause-shortest t c =
    rw (c.no_text.ensures.rest, c.no_text.ensures.shortest) (plain-least c.args.octets.now c.in-Some-short_leaf.rest.now c.in-Some-short_leaf.ensures c.args.room)

pub value-returns-else-room-eq0-clause-ok : goal.value-returns-else-room-eq0-clause-ok
value-returns-else-room-eq0-clause-ok t c =
    let room = c.args.room in
    let same = ap (written_at room) c.in-Some.ensures.cases.0 ∙ (written-nests room c.in-Some.first.now c.in-Some.rest.now (omega (arith, c.if-room-eq0.false))
    ∙ ap (λ form. written_nest_at (written_at (room - 1)) form c.in-Some.rest.now) (sym c.form_of-form.ensures)) in
    subst (λ read. IfOk c.nest.result (λ s. IsSeen read s.rest.now s.carriage (option_map (λ t. t.now) s.text))) (sym same) c.nest.ensures.ok

pub value-returns-else-room-eq0-clause-err : goal.value-returns-else-room-eq0-clause-err
value-returns-else-room-eq0-clause-err t c =
    let room = c.args.room in
    let same = ap (written_at room) c.in-Some.ensures.cases.0 ∙ (written-nests room c.in-Some.first.now c.in-Some.rest.now (omega (arith, c.if-room-eq0.false))
    ∙ ap (λ form. written_nest_at (written_at (room - 1)) form c.in-Some.rest.now) (sym c.form_of-form.ensures)) in
    subst (λ read. IfErr c.nest.result (λ e. read ≡ Err e)) (sym same) c.nest.ensures.err

pub value-returns-then-room-eq0-clause-shortest : goal.value-returns-then-room-eq0-clause-shortest
value-returns-then-room-eq0-clause-shortest t c =
    let room = c.args.room in
    let octets = c.args.octets.now in
    let first = c.in-Some.first.now in
    let rest = c.in-Some.rest.now in
    let begins = c.in-Some.ensures.cases.0 in
    let is = c.form_of-form.ensures in
    let same = ap (written_at room) begins ∙ (written-leaf room first rest c.if-room-eq0.true ∙ ap (λ form. leaf_at form rest) (sym is)) in
    of-ok c.leaf.result _ (λ s. IsFullyJudged (written_at room octets) octets s.rest.now s.is_shortest)
    (λ s judged. as-judged _ _ octets s.rest.now s.is_shortest (sym same)
    (leaf-judged first _ octets rest s.rest.now s.is_shortest is begins (λ i. (c.type_inv.octets i).fits) (judged first begins)))
    c.leaf.ensures.shortest

pub value-returns-else-room-eq0-clause-shortest : goal.value-returns-else-room-eq0-clause-shortest
value-returns-else-room-eq0-clause-shortest t c =
    let room = c.args.room in
    let first = c.in-Some.first.now in
    let rest = c.in-Some.rest.now in
    let begins = c.in-Some.ensures.cases.0 in
    let same = ap (written_at room) begins ∙ (written-nests room first rest (omega (arith, c.if-room-eq0.false))
    ∙ ap (λ form. written_nest_at (written_at (room - 1)) form rest) (sym c.form_of-form.ensures)) in
    of-ok c.nest.result _ (λ s. IsFullyJudged (written_at room c.args.octets.now) c.args.octets.now s.rest.now s.is_shortest)
    (λ s judged. as-judged _ _ c.args.octets.now s.rest.now s.is_shortest (sym same) (judged first c.form_of-form.ensures begins)) c.nest.ensures.shortest

pub nest-returns-in_default-clause-shortest : goal.nest-returns-in_default-clause-shortest
nest-returns-in_default-clause-shortest t c =
    let form = c.args.form in
    let all = c.args.all.now in
    let octets = c.args.octets.now in
    let value = written_at c.args.room in
    of-both c.leaf.result _ _ (λ s. (o : ℕ) → form ≡ form_of o → all ≡ o ∷ octets → IsFullyJudged (written_nest_at value form octets) all s.rest.now s.is_shortest)
    (λ s ok judged o is begins. as-judged _ _ all s.rest.now s.is_shortest (sym (nest-of-leaf value form octets ok.0 s.rest.now ok.1))
    (leaf-judged o form all octets s.rest.now s.is_shortest is begins (λ i. (c.type_inv.all i).fits) (judged o begins)))
    c.leaf.ensures.ok c.leaf.ensures.shortest

pub nest-returns-in_ok-found-in-List-clause-shortest : goal.nest-returns-in_ok-found-in-List-clause-shortest
nest-returns-in_ok-found-in-List-clause-shortest t c = λ o is begins d front read parts.
    let all = c.args.all.now in
    let octets = c.args.octets.now in
    let size = c.in-List.size in
    let count = c.in_ok-count-in-List in
    let found = c.in_ok-found-in-List in
    let rest = found.found.rest.now in
    let ends : all ≡ front ++ rest = rw c.behind.ensures.rest at parts in
    let got : written_nest_at (written_at c.args.room) (forms.List size) octets ≡ Ok (d, rest) = rw (c.in-List.is, c.behind.ensures.rest) at read in
    rw c.behind.ensures.shortest
    (list-nest-judged c.args.room o size all octets count.rest.now rest count.count c.is_list_head-is_least.result found.found.is_shortest
    (sym c.in-List.is ∙ is) begins (λ i. (c.type_inv.all i).fits) count.ensures.ok (λ head split. rw (c.before-in-List.ensures head split) at c.is_list_head-is_least.ensures) found.ensures.shortest d front got ends)

pub nest-returns-in_ok-found-in-Dict-clause-shortest : goal.nest-returns-in_ok-found-in-Dict-clause-shortest
nest-returns-in_ok-found-in-Dict-clause-shortest t c = λ o is begins d front read parts.
    let all = c.args.all.now in
    let octets = c.args.octets.now in
    let size = c.in-Dict.size in
    let count = c.in_ok-count-in-Dict in
    let found = c.in_ok-found-in-Dict in
    let rest = found.found.rest.now in
    let ends : all ≡ front ++ rest = rw c.behind-in-Dict.ensures.rest at parts in
    let got : written_nest_at (written_at c.args.room) (forms.Dict size) octets ≡ Ok (d, rest) = rw (c.in-Dict.is, c.behind-in-Dict.ensures.rest) at read in
    rw c.behind-in-Dict.ensures.shortest
    (dict-nest-judged c.args.room o size all octets count.rest.now rest count.count c.is_dict_head-is_least.result found.found.is_shortest
    (sym c.in-Dict.is ∙ is) begins (λ i. (c.type_inv.all i).fits) count.ensures.ok (λ head split. rw (c.before-in-Dict.ensures head split) at c.is_dict_head-is_least.ensures) found.ensures.shortest d front got ends)
