-- What always holds of an outbox and its drain, by what they share.
use Rattle.std.specs.Prelude.{◌≡◌, Some}
use Rattle.std.specs.Arc.{arc_value}
use Rattle.crossbeam_queue.specs.Passes.{view, IsPassOf}
use Rattle.outbox_queue.specs.declared.drain.Drain.TheInside.{Inside as Drain}
use Rattle.outbox_queue.specs.Slot.{whose_of, whose_drain}
use Rattle.outbox_queue.specs.declared.outbox.Outbox.TheInside.{Inside as Outbox}

module _ {T H : Type 0} where
  -- the adding end has a pass of the slot in which it is to come over, which knows whose it is
  pub record IsSending (o : Outbox T H) : Type 0 where
    pub is_pass : IsPassOf (arc_value o.link).slot o.pass
    pub knows : view o.pass ≡ Some (whose_of o.end)

  -- the same of the taking end, which keeps the history of the last item
  pub record IsDraining (d : Drain T H) : Type 0 where
    pub last : d.last ≡ d.end.seen
    pub is_pass : IsPassOf (arc_value d.link).slot d.pass
    pub knows : view d.pass ≡ Some (whose_drain d.end)
