use Rattle.std.proofs.Common.{◌≡◌, ◌≤◌, ◌++◌, ℕ, List, drop, length, ap, ◌∙◌, sym, arith, length-append, Vec, Global}
use Rattle.std.proofs.lemmas.List.{length-drop}
use Rattle.rawsocket.specs.Frames.{Content, spelled}
use Rattle.rawsocket.specs.Deframer.{Deframing}
use Rattle.rawsocket.proofs.Stream.{payload_is}
use Rattle.rawsocket.proofs.DeframerLemmas.{resumes_whole}
use Rattle.rawsocket.proofs.deframer.Deframer.resume.Goals as goal

pub returns-clause-reads : goal.returns-clause-reads
returns-clause-reads c =
    let e = rw c.in-Some.is at c.in_ok-kind.ensures in
    let old = c.args.self.now.held in
    let whole : List ℕ → Content = λ p. record { kind = c.in-Some.kind; payload = p } in
    let held : c.self-2.inside.payload.items ≡ drop 4 old = payload_is c.self-2.inside.most c.self-2.inside.header c.self-2.inside.have c.self-2.inside.payload.items old c.self-2.invariant (ap (λ (d : Deframing). d.held) (c.self-2.view_is ∙ e.same)) in
    let items : c.replace-payload.result.items ≡ drop 4 old ++ c.in-Some.body.now =
    ap (λ (v : Vec ℕ Global). v.items) c.replace-payload.ensures.value ∙ c.in_ok-grow.ensures.ok ∙ ap (λ p. p ++ c.in-Some.body.now) held in
    let is : old ++ c.args.piece.now ≡ spelled (whole c.replace-payload.result.items) ++ c.in-Some.after.now = e.whole ∙ ap (λ p. spelled (whole p) ++ c.in-Some.after.now) (sym items) in
    let taken : length c.replace-payload.result.items ≤ c.args.self.now.most = omega (arith, ap length items, e.fits) in
    let fits : length c.in-Some.after.now ≤ length c.args.piece.now =
    omega (arith, ap length is, length-append old c.args.piece.now, length-append c.replace-payload.result.items c.in-Some.after.now, ap length items, length-append (drop 4 old) c.in-Some.body.now, length-drop 4 old) in
    resumes_whole c.args.self.now.most (whole c.replace-payload.result.items) old c.args.piece.now c.in-Some.after.now c.replace-payload.new.dest.items taken is fits (ap (λ (v : Vec ℕ Global). v.items) c.replace-payload.ensures.after ∙ c.new.ensures.items)
