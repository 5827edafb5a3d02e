use Rattle.std.proofs.Common.{◌≡◌, ◌∙◌, ◌++◌, ◌∷◌, [], codes, rules, sym, ap, subst, Ok, Err}
use Rattle.std.specs.Prelude.{OnOk}
use Rattle.std.proofs.lemmas.Result.{err_from_is_err_and}
use Rattle.rawsocket.specs.Steps.{device_told}
use Rattle.rawsocket.proofs.Lemmas.{at_told, then_steps, grown_within, grown_second}
use Rattle.rawsocket.specs.Devices.{GrowsByBeginning}
use Rattle.command_line.specs.Commands.{fault_line, line_number, name_of}
use Rattle.command_line.proofs.WrittenPieces.{grown_third, grown_last, written_all}
use Rattle.command_line.proofs.diagnostics.write_fault.Goals as goal

pub returns-in_err-write_all-clause-begun : goal.returns-in_err-write_all-clause-begun
returns-in_err-write_all-clause-begun g c = grown_within _ _ (codes "wampd: ") _ c.write_all.ensures.begun

pub returns-in_err-write_all-2-clause-begun : goal.returns-in_err-write_all-2-clause-begun
returns-in_err-write_all-2-clause-begun g c =
    let n : c.as_bytes.result.now ≡ name_of c.args.fault.now = search rules in
    let begun = subst (λ b. GrowsByBeginning (g.S.Sink.seen c.write_all.new.sink).taken (g.S.Sink.seen c.write_all-2.new.sink).taken b) n c.write_all-2.ensures.begun in
    grown_second _ (g.S.Sink.seen c.write_all.new.sink).taken _ (codes "wampd: ") (name_of c.args.fault.now) _ c.in_ok-write_all.ensures.written begun

pub returns-in_err-write_number-clause-begun : goal.returns-in_err-write_number-clause-begun
returns-in_err-write_number-clause-begun g c =
    let n : c.as_bytes.result.now ≡ name_of c.args.fault.now = search rules in
    let named : (g.S.Sink.seen c.write_all-2.new.sink).taken ≡ (g.S.Sink.seen c.write_all.new.sink).taken ++ name_of c.args.fault.now = c.in_ok-write_all-2.ensures.written ∙ ap (λ b. (g.S.Sink.seen c.write_all.new.sink).taken ++ b) n in
    grown_third _ (g.S.Sink.seen c.write_all.new.sink).taken (g.S.Sink.seen c.write_all-2.new.sink).taken _ (codes "wampd: ") (name_of c.args.fault.now) (line_number c.args.fault.now) _ c.in_ok-write_all.ensures.written named c.write_number.ensures.begun

pub returns-clause-written : goal.returns-clause-written
returns-clause-written g c =
    let n : c.as_bytes.result.now ≡ name_of c.args.fault.now = search rules in
    let named : (g.S.Sink.seen c.write_all-2.new.sink).taken ≡ (g.S.Sink.seen c.write_all.new.sink).taken ++ name_of c.args.fault.now = c.in_ok-write_all-2.ensures.written ∙ ap (λ b. (g.S.Sink.seen c.write_all.new.sink).taken ++ b) n in
    elim c.send.result as (λ r. OnOk r ((g.S.Sink.seen c.send.new.sink).taken ≡ (g.S.Sink.seen c.write_number.new.sink).taken ++ 10 ∷ []) → OnOk r ((g.S.Sink.seen c.send.new.sink).taken ≡ (g.S.Sink.seen c.args.sink.now).taken ++ fault_line c.args.fault.now)) [
      | Ok done ↦ λ h. written_all _ (g.S.Sink.seen c.write_all.new.sink).taken (g.S.Sink.seen c.write_all-2.new.sink).taken (g.S.Sink.seen c.write_number.new.sink).taken _ (codes "wampd: ") (name_of c.args.fault.now) (line_number c.args.fault.now) (10 ∷ [])
          c.in_ok-write_all.ensures.written named c.in_ok-write_number.ensures.written h
      | Err fault ↦ λ h. h
    ] c.send.ensures.written

pub returns-clause-begun : goal.returns-clause-begun
returns-clause-begun g c =
    let n : c.as_bytes.result.now ≡ name_of c.args.fault.now = search rules in
    let named : (g.S.Sink.seen c.write_all-2.new.sink).taken ≡ (g.S.Sink.seen c.write_all.new.sink).taken ++ name_of c.args.fault.now = c.in_ok-write_all-2.ensures.written ∙ ap (λ b. (g.S.Sink.seen c.write_all.new.sink).taken ++ b) n in
    grown_last _ (g.S.Sink.seen c.write_all.new.sink).taken (g.S.Sink.seen c.write_all-2.new.sink).taken (g.S.Sink.seen c.write_number.new.sink).taken _ (codes "wampd: ") (name_of c.args.fault.now) (line_number c.args.fault.now) (10 ∷ [])
    c.in_ok-write_all.ensures.written named c.in_ok-write_number.ensures.written c.send.ensures.begun

pub returns-in_err-write_all-clause-steps : goal.returns-in_err-write_all-clause-steps
returns-in_err-write_all-clause-steps g c =
    let p = err_from_is_err_and c.from_residual.result c.from_residual.ensures.1 in
    rw p.1 (at_told (ap device_told (sym p.2)) c.in_err-write_all.ensures.steps)

pub returns-in_err-write_all-2-clause-steps : goal.returns-in_err-write_all-2-clause-steps
returns-in_err-write_all-2-clause-steps g c =
    let p = err_from_is_err_and c.from_residual-in_err-write_all-2.result c.from_residual-in_err-write_all-2.ensures.1 in
    rw p.1 (at_told (ap device_told (sym p.2)) (then_steps c.in_ok-write_all.ensures.steps c.in_err-write_all-2.ensures.steps))

pub returns-in_err-write_number-clause-steps : goal.returns-in_err-write_number-clause-steps
returns-in_err-write_number-clause-steps g c =
    let p = err_from_is_err_and c.from_residual-in_err-write_number.result c.from_residual-in_err-write_number.ensures.1 in
    rw p.1 (at_told (ap device_told (sym p.2)) (then_steps (then_steps c.in_ok-write_all.ensures.steps c.in_ok-write_all-2.ensures.steps) c.in_err-write_number.ensures.steps))

pub returns-clause-steps : goal.returns-clause-steps
returns-clause-steps g c = then_steps (then_steps (then_steps c.in_ok-write_all.ensures.steps c.in_ok-write_all-2.ensures.steps) c.in_ok-write_number.ensures.steps) c.send.ensures.steps
