use Rattle.std.proofs.Common.{◌++◌, ap, arith, drop, length, length-append, length-take}
use Rattle.client_session.proofs.HearingLemmas.{reads_held}
use Rattle.client_session.proofs.link.Link.hear.Goals as goal

pub invariant_of-self : goal.invariant_of-self
invariant_of-self g c =
    let now = c.hear_next.new.buffer in
    let rest = drop (length now) c.self.inside.buffer.items in
    record {
      fits = c.self.invariant.fits;
      most = c.hear_next.ensures.most;
      steady = let next = c.hear_next.ensures.next in reads_held _ _ _ next.reads;
      room = omega (
        arith,
        length-take c.self.inside.buffer.len (now ++ rest),
        length-append now rest,
        c.hear_next.auto.buffer,
        c.deref_mut.ensures.len,
        ap (λ xs. length xs) c.deref_mut.ensures.value,
        c.self.invariant.room,
      );
    }
