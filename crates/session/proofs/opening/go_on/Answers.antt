use Rattle.std.proofs.Common.{◌≡◌, ◌++◌, inr, ap, ◌∙◌, subst}
use Rattle.rawsocket.specs.Devices.{GrowsByBeginning}
use Rattle.rawsocket.specs.Frames.{contents, fault_of, Reads}
use Rattle.session.specs.FrameWalk.{verdict_of}
use Rattle.session.specs.Opened.{Leads, terms}
use Rattle.rawsocket.proofs.Lemmas.{no_steps}
use Rattle.session.proofs.opening.go_on.Goals as goal

pub returns-in-Err-clause-writes : goal.returns-in-Err-clause-writes
returns-in-Err-clause-writes g c = no_steps _

pub returns-in-Err-judge-clause-writes : goal.returns-in-Err-judge-clause-writes
returns-in-Err-judge-clause-writes g c = no_steps _

pub returns-clause-writes : goal.returns-clause-writes
returns-clause-writes g c = c.in-Err-send.ensures.writes

pub returns-clause-begun : goal.returns-clause-begun
returns-clause-begun g c =
    let read = c.in-Ok.ensures in
    let adds = c.in-Ok-judge.ensures.decided in
    let frames = contents c.in-Ok.fed.frames.items in
    let new = c.feed.new.self.held in
    let t = terms c.args.client.serializer c.args.client.limit c.args.realms.now in
    let most : c.feed.new.self.most ≡ c.args.client.most = read.most ∙ c.requires.most in
    let octets : c.deref.result.now ≡ adds.out = c.deref.ensures.value ∙ (adds.is ∙ ap (λ before. before ++ adds.out) c.new-out.ensures.items) in
    inr (record {
      new = new;
      frames = frames;
      reads = subst (λ most. Reads most (c.args.deframer.now.held ++ c.args.piece.now) frames new) c.requires.most read.reads;
      verdict = verdict_of c.in-Ok-judge.verdict;
      out = adds.out;
      wrote = subst (λ written. GrowsByBeginning (g.O.Sink.seen c.args.sink.now).taken (g.O.Sink.seen c.send.new.sink).taken written) octets c.in-Err-send.ensures.begun;
      leads = subst (λ fault. Leads t fault frames adds.out (verdict_of c.in-Ok-judge.verdict)) (read.fault ∙ ap (λ most. fault_of most new) most) adds.leads;
    })
