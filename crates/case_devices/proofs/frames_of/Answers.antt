use Rattle.std.proofs.Common.{◌≡◌, ◌++◌, ap, ◌∙◌, subst}
use Rattle.rawsocket.specs.Frames.{contents, fault_of, router_takes, Reads}
use Rattle.rawsocket.proofs.DeframerLemmas.{pieces_step, pieces_done}
use Rattle.case_devices.proofs.frames_of.Goals as goal

pub loop-piece-preserved : goal.loop-piece-preserved
loop-piece-preserved c =
    let l = c.loop-piece in
    let piece = c.deref.result.now in
    let more = contents c.in_ok-fed.fed.frames.items in
    let reads : Reads router_takes (l.deframer.held ++ piece) more c.feed.new.self.held = subst (λ most. Reads most (l.deframer.held ++ piece) more c.feed.new.self.held) l.invariant.most c.in_ok-fed.ensures.reads in
    record {
      reads = pieces_step router_takes c.args.pieces.now l.piece-index c.piece-item.result c.deref.result.now l.deframer.held c.feed.new.self.held l.frames.items c.in_ok-fed.fed.frames.items c.append.new.self.items
          c.loop-piece-test.true c.piece-item.is c.deref.ensures.value c.in_ok-append.ensures.items l.invariant.reads reads;
      most = c.in_ok-fed.ensures.most ∙ l.invariant.most;
    }

pub returns-clause-reads : goal.returns-clause-reads
returns-clause-reads c =
    let l = c.loop-piece in
    (l.deframer.held, pieces_done router_takes c.args.pieces.now l.piece-index l.deframer.held l.frames.items c.loop-piece-test.false l.invariant.reads, c.fault.ensures ∙ ap (λ most. fault_of most l.deframer.held) l.invariant.most)
