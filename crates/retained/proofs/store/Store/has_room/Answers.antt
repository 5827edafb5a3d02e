use Rattle.std.proofs.Common.{◌≤◌, length, sym, ap, ◌∙◌, arith}
use Rattle.retained.specs.Store.{has_room}
use Rattle.retained.proofs.Insertion.{is_found, room-full}
use Rattle.retained.proofs.store.Store.has_room.Goals as goal

pub returns-else-len-lt-MOST_RETAINED : goal.returns-else-len-lt-MOST_RETAINED
returns-else-len-lt-MOST_RETAINED c =
    let place = rw c.deref.ensures.value at c.place_of.ensures in
    let full : 1000 ≤ length c.self.inside.publications.items = omega (arith, c.if-len-lt-MOST_RETAINED.false, c.len.ensures, c.deref.ensures.len) in
    c.is_ok.ensures.value
    ∙ is_found c.self.inside.publications.items c.args.topic.now c.place_of.result c.self.invariant.ordered place
    ∙ sym (room-full c.self.inside.publications.items c.args.topic.now full)
    ∙ ap (λ ps. has_room ps c.args.topic.now) c.self.view_is
