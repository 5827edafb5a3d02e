-- What a broker served, as its accepting thread knows it.
use Rattle.std.specs.Prelude.{◌≡◌, ◌≢◌, ◌≤◌, ◌+◌, ℕ, List, [], ◌++◌, Result, All, length, map}
use Rattle.threaded_server.specs.Answers.{Serves, came_in}
use Rattle.threaded_server.specs.SeatRules.{AscendAtSeats}
use Rattle.threaded_server.specs.Conns.{conns_of}
use Rattle.threaded_server.specs.Histories.{Start}
use Rattle.threaded_server.specs.Lending.{Lending}
use Rattle.threaded_server.specs.Overs.{AllWent, Books, Moves, after_of, before_of}
use Rattle.threaded_server.specs.Posts.{ReceivedPosted}
use Rattle.threaded_server.specs.Stopping.{HandledBefore}
use mathlib.Core.List.{IsPrefix}
use Rattle.broker_threads.specs.Streams.{KeepsNames, Offer, Sight}
use Rattle.threaded_server.specs.Ties.{IsRun, OverTied}
use Rattle.threaded_server.specs.declared.answer.Answer.{Answer}
use Rattle.broker_config.specs.declared.fault.Fault.{Fault}
use Rattle.threaded_server.specs.declared.over.Over.{Over}
use Rattle.threaded_server.specs.declared.realm_run.RealmRun.{RealmRun}

module _ {I O S : Type 0} where
  -- the broker accepted until it was told to stop, or as for `Serves`: what came meanwhile was lent, or couldn't be taken apart
  pub record LentUntil (before now : List Answer) (was lending : Lending I O) (had has : Books I O S) (result : Result Unit Fault) : Type 0 where
    pub serves : Serves before now result
    pub moves : Moves (came_in serves.given) was lending had has

-- what was served between two states of an acceptor, in parts: by what each reader's thread, each writer's and each actor's was given, and gave back
pub record ServedInParts {I O : Type 0} (S : Type 0) (see : Sight I O) (offer : Offer) (start : Start) (before now : List Answer) (was lending : Lending I O) (asked : ℕ) : Type 0 where
  -- what accepting answered meanwhile
  pub given : List Answer
  pub answered : now ≡ before ++ given
  -- each stream that came was lent to the broker, or couldn't be taken apart for want of memory
  pub lent : List (I × O)
  pub refused : ℕ
  pub all_came : came_in given ≡ length lent + refused
  pub refused_are : lending.refused ≡ was.refused + refused
  pub lent_are : lending.lent ≡ was.lent ++ lent
  -- what came back are the streams that were lent, in the order in which they did
  pub streams : List (Over I O S)
  pub returned_are : lending.returned ≡ was.returned ++ map after_of streams
  -- each came back as its reader left it, or it was told that no seat is free, while none was, or nothing was read or written
  pub went : AllWent see offer lent streams
  -- each came back under the name that it was lent under
  pub own : All (λ over. ∥ KeepsNames see (before_of over) ((after_of over).source, (after_of over).sink) ∥₁) streams
  -- the numbers of connections ascend at each seat, so no two had one number
  pub ascend : AscendAtSeats (conns_of streams)
  -- each realm that serves a session ran, and began so; where accepting was asked, as many ran as have names
  pub runs : List (RealmRun S)
  pub all_ran : given ≢ [] → length runs ≡ length offer.names
  pub each_ran : All (λ run. IsRun start run) runs
  -- what a realm received of a seat is what the streams posted there
  pub received : ∥ ReceivedPosted runs streams ∥₁
  -- those that were over when the actors were told to stop were handled whole: all at least that had come back when accepting was asked last
  pub early : List (Over I O S)
  pub early_are : IsPrefix early streams
  pub early_came : given ≢ [] → asked ≤ length was.returned + length early
  pub handled : ∥ HandledBefore runs early ∥₁
  -- what a session's writer took begins what the one history of the realm that its HELLO names owes its connection, and is all of that where it stopped, and that realm hasn't cut it;
  -- the same where it is told Lost, but the realm has; where its outbox was found full, it took as many items as that holds, or more
  pub tied : ∥ All (λ over. OverTied runs over) streams ∥₁
