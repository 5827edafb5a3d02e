-- What a realm's actor's thread gives back, beside what it was given.
use Rattle.std.specs.Prelude.{◌≡◌, List, [], Some}
use mathlib.Core.List.{IsPrefix}
use Rattle.realm.specs.Sessions.{IsHistory}
use Rattle.realm_actor.specs.ActorView.{Acting}
use Rattle.realm_actor.specs.Run.{EndsInStop, Ran}
use Rattle.realm_inbox.specs.EndViews.{received, inbox_of}
use Rattle.realm_inbox.specs.Seats.{InOrder}
use Rattle.realm_inbox.specs.declared.letter.Post.{Post}
use Rattle.broker_threads.specs.Words.{AreInOrder}
use Rattle.broker_threads.specs.declared.actor_thread.ActorThread.{ActorThread}
use Rattle.broker_threads.specs.declared.actor_thread.Acted.{Acted}

module _ {S : Type 0} where
  -- the actor that the thread begins with: of its realm, with no sessions
  abbrev pub first_of : ActorThread S → Acting S
  first_of w = record { chronicle = w.chronicle.chronicle; history = w.kept; rows = []; words = w.words; last_cut = []; handled = [] }

  -- the actor ran on what its own inbox gave first, up to a stop and no further, and its chronicle has the history that this made, in which each entry may come after those before it; what the
  -- inbox gave then was turned away
  pub record Acts (w : ActorThread S) (done : Acted S) : Type 0 where
    pub inbox : inbox_of done.inbox ≡ inbox_of w.inbox
    pub chronicle : done.chronicle.chronicle ≡ w.chronicle.chronicle
    pub came : List (Post S)
    pub received : IsPrefix came (received done.inbox)
    pub in_order : InOrder [] came
    pub ran : Ran (first_of w) came done.actor.value
    pub ends : EndsInStop [] came
    pub history : done.chronicle.history ≡ Some done.actor.value.history
    pub legal : IsHistory done.actor.value.history
    pub words : AreInOrder done.actor.value.words
