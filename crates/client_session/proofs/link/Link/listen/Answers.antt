use Rattle.std.proofs.Common.{◌++◌, ap, arith, drop, length, length-append, length-take}
use Rattle.client_session.proofs.HearingLemmas.{listened_held}
use Rattle.client_session.proofs.link.Link.listen.Goals as goal

pub invariant_of-self : goal.invariant_of-self
invariant_of-self g c =
    let now = c.listen_next.new.buffer in
    let rest = drop (length now) c.self.inside.buffer.items in
    record {
      fits = c.self.invariant.fits;
      most = c.listen_next.ensures.most;
      steady = listened_held _ _ _ _ c.listen_next.ensures.next;
      room = omega (
        arith,
        length-take c.self.inside.buffer.len (now ++ rest),
        length-append now rest,
        c.listen_next.auto.buffer,
        c.deref_mut.ensures.len,
        ap (λ xs. length xs) c.deref_mut.ensures.value,
        c.self.invariant.room,
      );
    }
