-- What a broker served: what became of each stream that it was lent, and of each of its realms.
use Rattle.std.specs.Prelude.{◌≡◌, ◌≢◌, ◌≤◌, ◌<◌, ◌⊎◌, ◌+◌, ◌==◌, ◌&&◌, ℕ, true, false, List, [], ◌++◌, Option, None, Some, All, IsPermutation, if◌then◌else◌, length, map, option_to_list, slice_get}
use Rattle.std.specs.List.{flat_map, list_any}
use mathlib.Core.List.{IsPrefix}
use Rattle.broker_threads.specs.Streams.{IsNotOpened, IsOpened, KeepsNames, Offer, Sight}
use Rattle.broker_threads.specs.declared.stream_fate.SessionEnds.{SessionEnds}
use Rattle.broker_threads.specs.declared.stream_fate.StreamFate.{StreamFate}
use Rattle.broker_threads.specs.declared.stream_fate.StreamFate.TheVariants as fate
use Rattle.connection.specs.declared.writer.WriteEnd.TheVariants.{Full, Lost, Stopped}
use Rattle.realm.specs.Sessions.{joined}
use Rattle.realm.specs.Yield.{owed}
use Rattle.realm_inbox.specs.Over.{was_cut}
use Rattle.realm_inbox.specs.Seats.{at_seat}
use Rattle.realm_inbox.specs.declared.act.Act.{Act}
use Rattle.realm_inbox.specs.declared.joining.Joining.{Joining}
use Rattle.session.specs.Opened.{Session}
use Rattle.threaded_server.specs.Answers.{came_in}
use Rattle.threaded_server.specs.Histories.{IsRealm, Realm, Start, until_stop}
use Rattle.threaded_server.specs.Lending.{Lending, Returned}
use Rattle.threaded_server.specs.SeatRules.{AscendAtSeats, FoundNoSeat, IsTurnedAway}
use Rattle.threaded_server.specs.Sessions.{IsWritten, Joins, SaysSome, halves}
use Rattle.threaded_server.specs.declared.answer.Answer.{Answer}
use Rattle.wamp_ids.specs.Numbers.{seat_of}
use Rattle.wamp_messages.specs.declared.item.Item.{Item}

-- a stream that a broker was lent: its two halves as they were then, and as they came back, with what its acceptor is told of it; the number of its connection, if it had a seat; and
-- what it posted, in the realm at this place
pub record LentStream (I O S : Type 0) : Type 0 where
  pub lent : I × O
  pub back : Returned I O
  pub conn : Option ℕ
  pub realm : ℕ
  pub posted : List (Act S)

module _ {I O S : Type 0} (see : Sight I O) (offer : Offer) (realms : List (Realm S)) where
  -- over a stream a session was served, as the connection of this number, until its reader and its writer ended so
  pub record IsSession (s : LentStream I O S) (conn : ℕ) (ends : SessionEnds) : Type 0 where
    -- what its octets up to HELLO ask for; the answer was written, and its halves were these then
    pub hello : Session
    pub source : I
    pub sink : O
    pub opened : IsOpened see offer (halves S s.lent) source sink hello
    -- the realm that its HELLO names, in which it posted
    pub realm : Realm S
    pub named : slice_get realms hello.realm ≡ Some realm
    pub there : s.realm ≡ hello.realm
    -- it posted its Join, and what its further octets say
    pub join : Joining S
    pub joins : Joins hello offer.room conn realm.chronicle join
    pub says : SaysSome see.reading hello join source s.back.source ends.read s.posted
    -- the items that its writer took, which were written
    pub items : List Item
    pub written : IsWritten see.writing hello sink s.back.sink ends.write items
    -- They begin what the realm's one history owes the connection. Where the writer stopped they are all of that; where its outbox was found full, they are as many as that holds, or more
    pub due : IsPrefix items (owed realm.history conn)
    pub whole : ends.write ≡ Stopped → items ≡ owed realm.history conn
    pub full : ends.write ≡ Full → offer.room ≤ length items
    -- and in each of these cases, and where it is told Lost, its Join stands in that history, accepted or refused: no Join is lost untold
    pub asked : (ends.write ≡ Stopped) ⊎ ((ends.write ≡ Full) ⊎ (ends.write ≡ Lost)) → list_any (λ d. d == conn) (joined realm.history) ≡ true
    -- Its realm cuts it only where it is told Full or Lost. Where its writer stopped, no Cut of it stands in that history. Where it is told Lost one does: its realm says that memory was
    -- refused for something of it. And the items are all that is owed then too, since nothing is owed behind a Cut
    pub uncut : ends.write ≡ Stopped → was_cut realm.history conn ≡ false
    pub lost : ends.write ≡ Lost → (items ≡ owed realm.history conn) × (was_cut realm.history conn ≡ true)

  -- what became of a stream is what its acceptor is told of it
  abbrev pub IsFate : LentStream I O S → StreamFate → Type 0
  IsFate s fate.NoSeat = IsTurnedAway see s.lent (s.back.source, s.back.sink) × (s.conn ≡ None) × (s.posted ≡ [])
  IsFate s fate.NoMemory = ((s.back.source, s.back.sink) ≡ s.lent) × (s.posted ≡ [])
  IsFate s (fate.NotOpened fault) = IsNotOpened see offer (halves S s.lent) s.back.source s.back.sink fault × (s.conn ≢ None) × (s.posted ≡ [])
  IsFate s fate.OpenedAlone = ((hello : Session) × IsOpened see offer (halves S s.lent) s.back.source s.back.sink hello) × (s.conn ≢ None) × (s.posted ≡ [])
  IsFate s (fate.Served ends) = (conn : ℕ) × (s.conn ≡ Some conn) × IsSession s conn ends

module _ {I O S : Type 0} where
  -- what a stream posted in the realm at this place, by the connection of this number, where that has this seat: each act with the connection
  abbrev pub posts_by : ℕ → ℕ → LentStream I O S → Option ℕ → List (ℕ × Act S)
  posts_by realm seat s None = []
  posts_by realm seat s (Some conn) = if s.realm == realm && seat_of conn == seat then map (λ act. (conn, act)) s.posted else []

  -- what each realm received of a seat, of 256, is what the streams posted there, one after another
  abbrev pub ReceivedAll : List (Realm S) → List (LentStream I O S) → Type 0
  ReceivedAll realms streams = (i k : ℕ) (realm : Realm S) → slice_get realms i ≡ Some realm → k < 256 → at_seat (k + 1) realm.received ≡ flat_map (λ s. posts_by i (k + 1) s s.conn) streams

  -- what these streams posted in a realm was received before the first stop, at which its actor ended: so all of it was handled
  abbrev pub HandledAll : List (Realm S) → List (LentStream I O S) → Type 0
  HandledAll realms early = (i k : ℕ) (realm : Realm S) → slice_get realms i ≡ Some realm → k < 256 → IsPrefix (flat_map (λ s. posts_by i (k + 1) s s.conn) early) (at_seat (k + 1) (until_stop realm.received))

-- what was served between two states of an acceptor, where so many streams had come back to it when accepting was asked last
pub record Served {I O : Type 0} (S : Type 0) (see : Sight I O) (offer : Offer) (start : Start) (before now : List Answer) (was lending : Lending I O) (asked : ℕ) : Type 0 where
  -- what accepting answered meanwhile: each stream that came was lent, or couldn't be taken apart, for want of memory
  pub given : List Answer
  pub answered : now ≡ before ++ given
  pub lent : List (I × O)
  pub refused : ℕ
  pub all_came : came_in given ≡ length lent + refused
  pub lent_are : lending.lent ≡ was.lent ++ lent
  pub refused_are : lending.refused ≡ was.refused + refused
  -- those that were lent came back under their names, in the order in which they were over, each with its fate
  pub streams : List (LentStream I O S)
  pub each : IsPermutation lent (map (λ s. s.lent) streams)
  pub returned_are : lending.returned ≡ was.returned ++ map (λ s. s.back) streams
  pub names : All (λ s. KeepsNames see s.lent (s.back.source, s.back.sink)) streams
  -- each realm has its history, which was made of what it received. Where accepting was asked there are as many as names
  pub realms : List (Realm S)
  pub all_ran : given ≢ [] → length realms ≡ length offer.names
  pub histories : All (λ realm. IsRealm start realm) realms
  pub fates : All (λ s. IsFate see offer realms s s.back.fate) streams
  pub received : ReceivedAll realms streams
  -- those that were over when the actors were told to stop were handled whole: all at least that had come back when accepting was asked last
  pub early : List (LentStream I O S)
  pub early_are : IsPrefix early streams
  pub early_came : given ≢ [] → asked ≤ length was.returned + length early
  pub handled : HandledAll realms early
  -- one was told that no seat is free only where none was; and the numbers of connections ascend at each seat, so no two had one number
  pub no_seat : (i : ℕ) (s : LentStream I O S) → slice_get streams i ≡ Some s → s.back.fate ≡ fate.NoSeat → FoundNoSeat lent i s.lent
  pub numbers : AscendAtSeats (flat_map (λ s. option_to_list s.conn) streams)
