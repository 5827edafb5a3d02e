-- How an actor at its inbox goes on.
use Rattle.std.specs.Prelude.{◌≡◌, ℕ, Some, None}
use mathlib.Core.List.{IsPrefix}
use Rattle.wamp_ids.specs.Numbers.{seat_of}
use Rattle.realm_inbox.specs.declared.ends.Poster.{Poster}
use Rattle.realm_inbox.specs.EndViews.{received, posted, poster_conn, home_of, inbox_of, inbox_of_poster}
use Rattle.realm_inbox.specs.Seats.{at_seat}
use Rattle.realm_actor.specs.ActorView.{Acting}
use Rattle.realm_actor.specs.OutboxHistory.{Box}
use Rattle.realm_actor.specs.LastCut.{outbox_of}
use Rattle.realm_actor.specs.Run.{SameAtSeats}
use Rattle.cases_actor.specs.declared.settling.desk.Desk.{Desk}
use Rattle.case_posts.specs.declared.wire.Wire.{Wire}

-- the outbox of c, if it was held, is held, over the same queue
abbrev pub StaysHeld : ℕ → Acting Wire → Acting Wire → Type 0
StaysHeld c old new = (o : Box) → outbox_of old.rows c ≡ Some o → (p : Box) × (outbox_of new.rows c ≡ Some p) × (p.queue ≡ o.queue)

-- what the actor has handled is, seat by seat, what its inbox gave, for which no chronicle is picked
abbrev pub InStep : Desk → Type 0
InStep d = SameAtSeats d.actor.handled (received d.inbox) × (home_of d.inbox ≡ None)

-- each outbox that was held is held, and the inbox is the same, and gave what it had given, and maybe more; the actor keeps up
pub record GoesOn (old new : Desk) : Type 0 where
  pub same : InStep old → InStep new
  pub held : (c : ℕ) → StaysHeld c old.actor new.actor
  pub place : inbox_of new.inbox ≡ inbox_of old.inbox
  pub grown : IsPrefix (received old.inbox) (received new.inbox)

-- the poster is of this inbox, which gave all that was posted at its seat
pub record AllCame (d : Desk) (p : Poster Wire) : Type 0 where
  pub place : inbox_of_poster p ≡ inbox_of d.inbox
  pub all : posted p ≡ at_seat (seat_of (poster_conn p)) (received d.inbox)
