use Rattle.std.proofs.Common.{◌≡◌, ◌+◌, [], ◌∷◌, length, length-append, sym, ap, ◌∙◌, subst, arith}
use Rattle.threaded_server.proofs.PosterSteps.{Gaining, gaining_all, gaining_none, gaining_on}
use Rattle.threaded_server.specs.Posters.{lists_of}
use Rattle.threaded_server.proofs.poster_table.PosterTable.add_realm.Goals.{in-Some, in_default}
use Rattle.threaded_server.proofs.poster_table.PosterTable.add_realm.Goals as goal

pub loop-done-init : goal.loop-done-init
loop-done-init g c = (
  (let all : length c.args.seats.items + 0 ≡ 256 = omega (arith, c.requires) in all),
  λ inbox are. gaining_none inbox c.args.realm (lists_of c.args.self.now) c.args.seats.items c.requires are,
)

pub loop-done-preserved : goal.loop-done-preserved
loop-done-preserved g c =
    let seats = c.loop-done.seats.items in
    let left = c.pop.new.self.items in
    let before = lists_of c.args.self.now in
    elim c.match-pop.branch [
      | in-Some w ↦
          let long : length c.loop-done.seats.items ≡ length c.pop.new.self.items + 1 = ap length w.in-Some.ensures.items ∙ length-append left (w.in-Some.at ∷ []) in (
            omega (arith, long, c.loop-done.invariant.0),
            λ inbox are. subst (λ t. Gaining inbox c.args.realm before (lists_of t) left) (sym w.self-is)
                (gaining_on inbox c.args.realm before (lists_of c.loop-done.self) (lists_of w.add_seat.new.self) seats left w.in-Some.at w.in-Some.ensures.items w.add_seat.ensures (c.loop-done.invariant.1 inbox are)),
          )
      | in_default w ↦ absurd (omega (arith, w.in_default.ensures.cases.0, c.loop-done.seats.ok.0, c.loop-done.invariant.0, c.loop-done-test.true))
    ]

pub returns : goal.returns
returns g c inbox are =
    let none : length c.loop-done.seats.items ≡ 0 = omega (arith, c.loop-done.invariant.0, c.loop-done-test.false) in
    gaining_all inbox c.args.realm (lists_of c.args.self.now) (lists_of c.loop-done.self) c.loop-done.seats.items none (c.loop-done.invariant.1 inbox are)
