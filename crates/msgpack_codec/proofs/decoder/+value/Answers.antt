use Rattle.std.proofs.Common.{◌≡◌, ◌≢◌, ◌-◌, List, [], ◌∷◌, ◌++◌, Ok, Err, IfOk, IfErr, sym, ap, ◌∙◌, subst, arith}
use Rattle.message_tree.specs.declared.tree.Tree.{Tree}
use Rattle.std.proofs.lemmas.Result.{err_from_is_err_and}
use Rattle.message_tree.specs.View.{view, items_view, dict_view}
use Rattle.msgpack_codec.specs.declared.fault.Fault.TheVariants.{NoMemory}
use Rattle.msgpack_codec.specs.body.Decoder.{value_at, nest_at, push_item, items_at, dict_at}
use Rattle.msgpack_codec.proofs.Loops.{one-left, none-left, items_view-push, item-read, item-refused, items-read, value-nests, entry-read, key-refused, entry-refused, dict-read}
use Rattle.msgpack_codec.proofs.decoder.+value.Goals as goal

pub items-returns-in_err-item-clause-err : goal.items-returns-in_err-item-clause-err
items-returns-in_err-item-clause-err t c =
    let l = c.loop in
    let p = err_from_is_err_and c.from_residual.result c.from_residual.ensures.1 in
    let value = value_at c.args.room in
    let found = items_view l.found.items in
    let rest = l.rest.now in
    rw (p.1, p.2) (λ other. sym (item-refused value _ found rest _ (c.in_err-item.ensures.err other) ∙ (one-left (λ n. items_at value n found rest) c.args.count l.counter c.loop-test.true ∙ l.invariant)))

pub items-loop-preserved : goal.items-loop-preserved
items-loop-preserved t c =
    let l = c.loop in
    let d = c.in_ok-item.item in
    let value = value_at c.args.room in
    let found = items_view l.found.items in
    let rest = l.rest.now in
    let grown : items_view c.push_reserved.new.self.items ≡ push_item found (view d) =
    ap items_view (c.push_reserved.ensures.items ∙ ap (λ (ts : List Tree). ts ++ d ∷ []) c.in_ok-make_room.ensures.items) ∙ items_view-push l.found.items d in
    rw grown (item-read value _ found rest (view d) c.in_ok-item.after.now c.in_ok-item.ensures.ok ∙ (one-left (λ n. items_at value n found rest) c.args.count l.counter c.loop-test.true ∙ l.invariant))

pub items-returns-clause-ok : goal.items-returns-clause-ok
items-returns-clause-ok t c =
    let l = c.loop in
    let value = value_at c.args.room in
    let found = items_view l.found.items in
    sym (items-read value found l.rest.now ∙ (none-left (λ n. items_at value n found l.rest.now) c.args.count l.counter c.loop-test.false ∙ l.invariant))

pub dict-returns-in_err-key-clause-err : goal.dict-returns-in_err-key-clause-err
dict-returns-in_err-key-clause-err t c =
    let l = c.loop in
    let p = err_from_is_err_and c.from_residual.result c.from_residual.ensures.1 in
    let value = value_at c.args.room in
    let found = dict_view l.found in
    let rest = l.rest.now in
    rw (p.1, p.2) (λ other. sym (key-refused value _ found l.texts rest _ (c.in_err-key.ensures.err other) ∙ (one-left (λ n. dict_at value n found l.texts rest) c.args.count l.counter c.loop-test.true ∙ l.invariant)))

pub dict-returns-in_err-item-clause-err : goal.dict-returns-in_err-item-clause-err
dict-returns-in_err-item-clause-err t c =
    let l = c.loop in
    let p = err_from_is_err_and c.from_residual-in_err-item.result c.from_residual-in_err-item.ensures.1 in
    let value = value_at c.args.room in
    let found = dict_view l.found in
    let rest = l.rest.now in
    rw (p.1, p.2)
    (λ other. sym (entry-refused value _ found l.texts rest (view c.in_ok-key.key) c.in_ok-key.after.now _ c.in_ok-key.ensures.ok (c.in_err-item.ensures.err other)
    ∙ (one-left (λ n. dict_at value n found l.texts rest) c.args.count l.counter c.loop-test.true ∙ l.invariant)))

pub dict-loop-preserved : goal.dict-loop-preserved
dict-loop-preserved t c =
    let l = c.loop in
    let value = value_at c.args.room in
    let found = dict_view l.found in
    let rest = l.rest.now in
    rw (c.in_ok-texts.ensures.entries, c.in_ok-texts.ensures.text)
    (entry-read value _ found l.texts rest (view c.in_ok-key.key) (view c.in_ok-item.item) c.in_ok-key.after.now c.in_ok-item.after.now c.in_ok-key.ensures.ok c.in_ok-item.ensures.ok
    ∙ (one-left (λ n. dict_at value n found l.texts rest) c.args.count l.counter c.loop-test.true ∙ l.invariant))

pub dict-returns-clause-ok : goal.dict-returns-clause-ok
dict-returns-clause-ok t c =
    let l = c.loop in
    let value = value_at c.args.room in
    let found = dict_view l.found in
    rw c.whole.ensures (sym (dict-read value found l.texts l.rest.now ∙ (none-left (λ n. dict_at value n found l.texts l.rest.now) c.args.count l.counter c.loop-test.false ∙ l.invariant)))

pub value-returns-else-room-eq0-clause-ok : goal.value-returns-else-room-eq0-clause-ok
value-returns-else-room-eq0-clause-ok t c =
    let room = c.args.room in
    let same = ap (value_at room) c.in-Some.ensures.cases.0 ∙ (value-nests room c.in-Some.first.now c.in-Some.rest.now (omega (arith, c.if-room-eq0.false))
    ∙ ap (λ form. nest_at (value_at (room - 1)) form c.in-Some.rest.now) (sym c.form_of-form.ensures)) in
    subst (λ read. IfOk c.nest.result (λ x. read ≡ Ok (view x.0, x.1.now))) (sym same) c.nest.ensures.ok

pub value-returns-else-room-eq0-clause-err : goal.value-returns-else-room-eq0-clause-err
value-returns-else-room-eq0-clause-err t c =
    let room = c.args.room in
    let same = ap (value_at room) c.in-Some.ensures.cases.0 ∙ (value-nests room c.in-Some.first.now c.in-Some.rest.now (omega (arith, c.if-room-eq0.false))
    ∙ ap (λ form. nest_at (value_at (room - 1)) form c.in-Some.rest.now) (sym c.form_of-form.ensures)) in
    subst (λ read. IfErr c.nest.result (λ e. e ≢ NoMemory → read ≡ Err e)) (sym same) c.nest.ensures.err
