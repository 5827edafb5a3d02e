use Rattle.std.proofs.Common.{rules, ◌≡◌, length, arith, ◌∙◌, sym, subst, ap, List, ℕ}
use Rattle.std.proofs.lemmas.Grind.{common_steps}
use Rattle.std.proofs.lemmas.Result.{err_from_is_err_and}
use Rattle.rawsocket.specs.Steps.{device_told}
use Rattle.rawsocket.specs.Devices.{GrowsByBeginning}
use Rattle.rawsocket.proofs.DeviceLemmas.{nothing_left, whole_written, written_begun}
use Rattle.rawsocket.proofs.StepsLemmas.{at_told, failed_write, no_turn, then_steps}
use Rattle.rawsocket.proofs.devices.turns.write_all.Goals as goal

pub returns-then-not-take : goal.returns-then-not-take
returns-then-not-take g c =
    let none = c.take.ensures.none c.if-not-take.true in record {
      written = tt;
      begun = written_begun _ _ _ _ c.loop-rest.invariant.written;
      steps = then_steps c.loop-rest.invariant.steps (no_turn _ _ _ c.loop-rest.turns c.take.new.self none.0 none.1);
      which = search rules;
    }

pub returns-in_err-count : goal.returns-in_err-count
returns-in_err-count g c =
    let p = err_from_is_err_and c.from_residual.result c.from_residual.ensures.1 in
    rw p.1 (record {
      written = tt;
      begun = subst (λ (t : List ℕ). GrowsByBeginning (g.S.Sink.seen c.args.sink.now).taken t c.args.octets.now) (sym c.in_err-count.ensures.kept) (written_begun _ _ _ _ c.loop-rest.invariant.written);
      steps = then_steps c.loop-rest.invariant.steps (at_told (ap device_told (sym (p.2 ∙ c.in_err-count.ensures.fault))) (failed_write _ _ _ _ _ _ c.in_err-count.ensures (c.take.ensures.taken c.if-not-take.false)));
      which = λ other. absurd (other (p.2 ∙ c.in_err-count.ensures.fault));
    })

pub returns : goal.returns
returns g c = record {
  written =
      let none : length c.loop-rest.rest.now ≡ 0 = grind (arith, common_steps) in
      whole_written _ _ _ _ c.loop-rest.invariant.written (nothing_left c.loop-rest.rest.now none);
  begun = written_begun _ _ _ _ c.loop-rest.invariant.written;
  steps = c.loop-rest.invariant.steps;
  which = tt;
}
