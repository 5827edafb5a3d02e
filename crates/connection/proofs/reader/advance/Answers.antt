use Rattle.std.proofs.Common.{◌≡◌, ◌++◌, refl, ap, ◌∙◌, rules, subst, Ok, Err}
use Rattle.rawsocket.specs.Deframer.{completed, IsShort}
use Rattle.rawsocket.specs.Frames.{fault_of, kept}
use Rattle.connection.specs.Reader.{PostsFront}
use Rattle.connection.proofs.PiecePosted.{goes_through, stops_at_completed, stops_at_once, stops_at_rest, stops_behind}
use Rattle.connection.proofs.WeightsCounted.{counts_none, counts_then}
use Rattle.connection.proofs.reader.advance.Goals as goal

pub returns-in-Err-clause-advances : goal.returns-in-Err-clause-advances
returns-in-Err-clause-advances g c = stops_at_once c.args.deframer.now.most c.args.serializer c.args.deframer.now.held c.args.piece.now c.resume.new.self.held (g.P.Posting.posted c.args.poster.now)

pub returns-in-Err-post_completed-clause-advances : goal.returns-in-Err-post_completed-clause-advances
returns-in-Err-post_completed-clause-advances g c =
    stops_at_completed c.args.deframer.now.most c.args.serializer c.in-Err-post_completed.end c.args.deframer.now.held c.args.piece.now c.resume.new.self.held c.resume.new.self.held c.in-Ok.resumed.1.now (completed c.in-Ok.resumed.0)
    (g.P.Posting.posted c.args.poster.now) (g.P.Posting.posted c.post_completed.new.poster) c.in-Ok.ensures.reads c.in-Err-post_completed.ensures.posted

pub returns-in-Err-post_whole-clause-advances : goal.returns-in-Err-post_whole-clause-advances
returns-in-Err-post_whole-clause-advances g c =
    let front = c.in-Err-post_whole.ensures.ended in
    stops_behind c.args.deframer.now.most c.args.serializer c.in-Err-post_whole.end c.args.deframer.now.held c.args.piece.now c.resume.new.self.held c.resume.new.self.held c.in-Ok.resumed.1.now front.0 (completed c.in-Ok.resumed.0)
    (g.P.Posting.posted c.args.poster.now) (g.P.Posting.posted c.post_completed.new.poster) (g.P.Posting.posted c.post_whole.new.poster) c.in-Ok.ensures.reads c.in_default.ensures.posted
    (subst (λ most. PostsFront most c.args.serializer c.in-Ok.resumed.1.now front.0 (g.P.Posting.posted c.post_completed.new.poster) (g.P.Posting.posted c.post_whole.new.poster) (Err c.in-Err-post_whole.end)) c.in-Ok.ensures.most front.1)

pub returns-then-is_err-clause-advances : goal.returns-then-is_err-clause-advances
returns-then-is_err-clause-advances g c =
    stops_at_rest c.args.deframer.now.most c.args.serializer c.args.deframer.now.held c.args.piece.now c.hold.new.self.held c.resume.new.self.held c.in-Ok.resumed.1.now c.in-Ok-post_whole.rest.now (completed c.in-Ok.resumed.0)
    (g.P.Posting.posted c.args.poster.now) (g.P.Posting.posted c.post_completed.new.poster) (g.P.Posting.posted c.post_whole.new.poster) c.in-Ok.ensures.reads c.in_default.ensures.posted
    (subst (λ most. PostsFront most c.args.serializer c.in-Ok.resumed.1.now c.in-Ok-post_whole.rest.now (g.P.Posting.posted c.post_completed.new.poster) (g.P.Posting.posted c.post_whole.new.poster) (Ok tt)) c.in-Ok.ensures.most c.in-Ok-post_whole.ensures.front)

pub returns-clause-advances : goal.returns-clause-advances
returns-clause-advances g c =
    let same : c.resume.new.self.most ≡ c.args.deframer.now.most = c.in-Ok.ensures.most in
    let back = c.in-Ok-post_whole.rest.now in
    let held : c.hold.new.self.held ≡ c.resume.new.self.held ++ kept c.args.deframer.now.most back = subst (λ most. c.hold.new.self.held ≡ c.resume.new.self.held ++ kept most back) same (search rules) in
    goes_through c.args.deframer.now.most c.args.serializer c.post_fault.result c.fault.result c.args.deframer.now.held c.args.piece.now c.hold.new.self.held c.resume.new.self.held c.in-Ok.resumed.1.now back (completed c.in-Ok.resumed.0)
    (g.P.Posting.posted c.args.poster.now) (g.P.Posting.posted c.post_completed.new.poster) (g.P.Posting.posted c.post_whole.new.poster) (g.P.Posting.posted c.post_fault.new.poster) c.in-Ok.ensures.reads c.in_default.ensures.posted
    (subst (λ most. PostsFront most c.args.serializer c.in-Ok.resumed.1.now back (g.P.Posting.posted c.post_completed.new.poster) (g.P.Posting.posted c.post_whole.new.poster) (Ok tt)) same c.in-Ok-post_whole.ensures.front)
    (subst (λ most. IsShort most back) same c.in-Ok-post_whole.ensures.short) held (c.fault.ensures ∙ ap (λ most. fault_of most c.hold.new.self.held) (c.hold.ensures.most ∙ same)) (c.post_fault.ensures.posted c.args.serializer)

pub returns-in-Err-clause-counts : goal.returns-in-Err-clause-counts
returns-in-Err-clause-counts g c = counts_none c.args.serializer (g.P.Posting.posted c.args.poster.now) (g.P.Posting.posted c.args.poster.now) (g.P.Posting.weights c.args.poster.now) (g.P.Posting.weights c.args.poster.now) refl refl

pub returns-in-Err-post_whole-clause-counts : goal.returns-in-Err-post_whole-clause-counts
returns-in-Err-post_whole-clause-counts g c =
    counts_then c.args.serializer (g.P.Posting.posted c.args.poster.now) (g.P.Posting.posted c.post_completed.new.poster) (g.P.Posting.posted c.post_whole.new.poster) (g.P.Posting.weights c.args.poster.now) (g.P.Posting.weights c.post_completed.new.poster) (g.P.Posting.weights c.post_whole.new.poster) c.post_completed.ensures.counts c.post_whole.ensures.counts

pub returns-then-is_err-clause-counts : goal.returns-then-is_err-clause-counts
returns-then-is_err-clause-counts g c =
    counts_then c.args.serializer (g.P.Posting.posted c.args.poster.now) (g.P.Posting.posted c.post_completed.new.poster) (g.P.Posting.posted c.post_whole.new.poster) (g.P.Posting.weights c.args.poster.now) (g.P.Posting.weights c.post_completed.new.poster) (g.P.Posting.weights c.post_whole.new.poster) c.post_completed.ensures.counts c.post_whole.ensures.counts

pub returns-clause-counts : goal.returns-clause-counts
returns-clause-counts g c =
    counts_then c.args.serializer (g.P.Posting.posted c.args.poster.now) (g.P.Posting.posted c.post_whole.new.poster) (g.P.Posting.posted c.post_fault.new.poster) (g.P.Posting.weights c.args.poster.now) (g.P.Posting.weights c.post_whole.new.poster) (g.P.Posting.weights c.post_fault.new.poster) (counts_then c.args.serializer (g.P.Posting.posted c.args.poster.now) (g.P.Posting.posted c.post_completed.new.poster) (g.P.Posting.posted c.post_whole.new.poster) (g.P.Posting.weights c.args.poster.now) (g.P.Posting.weights c.post_completed.new.poster) (g.P.Posting.weights c.post_whole.new.poster) c.post_completed.ensures.counts c.post_whole.ensures.counts) (c.post_fault.ensures.counts c.args.serializer)
