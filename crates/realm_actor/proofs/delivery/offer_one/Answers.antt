use Rattle.std.proofs.Common.{ap, sym, ◌∙◌}
use Rattle.std.proofs.lemmas.Bool.{or_parts}
use Rattle.realm.specs.Given.{items_for}
use Rattle.realm_actor.proofs.RowDelivery.{due_here, due_next, due_nowhere, goes_next, row_at, none_same, none_next}
use Rattle.realm_actor.proofs.delivery.offer_one.Goals as goal

pub returns-in_default-clause-due : goal.returns-in_default-clause-due
returns-in_default-clause-due g c = λ rest due. due_nowhere c.args.realm.now c.args.rows.now c.args.conn c.args.item rest c.in_default.ensures due

pub offer-is_full-requires-clause-home : goal.offer-is_full-requires-clause-home
offer-is_full-requires-clause-home g c =
    let s = c.in-Some.ensures in
    let row = row_at c.args.rows.now c.in-Some.place c.index-rows-place.result s.1 s.0 s.2 in
    c.requires.home c.in-Some.place _ row.0

pub offer-is_full-requires-clause-due : goal.offer-is_full-requires-clause-due
offer-is_full-requires-clause-due g c =
    let s = c.in-Some.ensures in
    let row = row_at c.args.rows.now c.in-Some.place c.index-rows-place.result s.1 s.0 s.2 in
    let due = c.requires.due in
    (items_for c.args.conn due.0, due_here c.args.realm.now c.args.rows.now c.args.conn c.args.item due.0 c.in-Some.place _ row.0 (ap (λ x. x.conn) row.1 ∙ s.3) due.1)

pub returns-clause-due : goal.returns-clause-due
returns-clause-due g c = λ rest due.
    let s = c.in-Some.ensures in
    let row = row_at c.args.rows.now c.in-Some.place c.index-rows-place.result s.1 s.0 s.2 in
    let own = ap (λ x. x.conn) row.1 ∙ s.3 in
    let told = due_here c.args.realm.now c.args.rows.now c.args.conn c.args.item rest c.in-Some.place _ row.0 own due in
    due_next c.args.realm.now c.args.rows.now c.args.conn c.args.item rest c.in-Some.place _ c.offer-is_full.new.self c.requires.ascending row.0 own c.offer-is_full.ensures.goes.conn
    (c.offer-is_full.ensures.due (items_for c.args.conn rest) told) due

pub returns-clause-goes : goal.returns-clause-goes
returns-clause-goes g c =
    let s = c.in-Some.ensures in
    let row = row_at c.args.rows.now c.in-Some.place c.index-rows-place.result s.1 s.0 s.2 in
    goes_next c.args.rows.now c.in-Some.place _ c.offer-is_full.new.self row.0 c.offer-is_full.ensures.goes

pub returns-in_default-clause-none : goal.returns-in_default-clause-none
returns-in_default-clause-none g c = λ quiet. (quiet, none_same c.args.rows.now)

pub returns-clause-none : goal.returns-clause-none
returns-clause-none g c = λ quiet.
    let s = c.in-Some.ensures in
    let row = row_at c.args.rows.now c.in-Some.place c.index-rows-place.result s.1 s.0 s.2 in
    let t = or_parts c.args.pass.is_full c.offer-is_full.result (sym c.either.ensures ∙ quiet) in
    (t.0, none_next c.args.rows.now c.in-Some.place _ c.offer-is_full.new.self row.0 (c.offer-is_full.ensures.same t.1))
