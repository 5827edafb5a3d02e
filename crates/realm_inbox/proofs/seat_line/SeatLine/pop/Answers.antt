use Rattle.std.specs.VecDeque.{deque_len}
use Rattle.realm_inbox.proofs.LinePlaces.{popped_kept}
use Rattle.realm_inbox.proofs.seat_line.SeatLine.pop.Goals as goal

pub returns : goal.returns
returns g c =
    popped_kept c.pop_front-first.result c.args.self.now.posts.items c.pop_front-first.new.self.items _ (deque_len c.args.self.now.posts) (deque_len c.pop_front-first.new.self) c.pop_front-first.ensures.items
    c.pop_front-first.ensures.cases c.pop_front-first.new.self.ok.0 c.give_room_back.ensures
