-- Connections whose posts go through an inbox, and are handled at once.
use Rattle.std.specs.Prelude.{◌≡◌, ℕ, Option, Some, None, ⊤}
use Rattle.wamp_messages.specs.declared.item.Item.{Item}
use Rattle.realm.specs.History.{History}
use Rattle.outbox_queue.specs.Ends.{Taking}
use Rattle.outbox_queue.specs.Tied.{Kept}
use Rattle.realm_inbox.specs.declared.ends.Poster.{Poster}
use Rattle.realm_inbox.specs.EndViews.{poster_conn}
use Rattle.realm_actor.specs.OutboxHistory.{Box}
use Rattle.realm_actor.specs.LastCut.{outbox_of}
use Rattle.realm_actor.specs.Settle.{IsOther}
use Rattle.cases_actor.specs.declared.settling.desk.Desk.{Desk}
use Rattle.cases_actor.specs.declared.settling.side.Side.{Side}
use Rattle.cases_actor.specs.Desks.{AllCame}
use Rattle.case_posts.specs.declared.wire.Wire.{Wire}

-- the drain is of c, and the other end of the outbox of c, which is held
abbrev pub Pairs : ℕ → Option Box → Option (Taking Item (Kept History)) → Type 0
Pairs c held None = ⊤
Pairs c held (Some d) = (d.conn ≡ c) × IsOther d held

-- the poster, if one is here, is of c, and all that was posted at its seat was received
abbrev pub Sits : ℕ → Desk → Option (Poster Wire) → Type 0
Sits c d None = ⊤
Sits c d (Some p) = (poster_conn p ≡ c) × AllCame d p

-- its poster, if one is here, has nothing waiting, and the drain, if one is here, is that of its outbox
pub record IsSide (d : Desk) (s : Side) : Type 0 where
  pub sits : Sits s.conn d s.poster
  pub pair : Pairs s.conn (outbox_of d.actor.rows s.conn) s.drain
