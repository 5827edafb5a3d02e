-- What a realm's actor's thread gives back.
use Rattle.std.proofs.Common.{◌≡◌, List, ◌++◌, Some, sym, ap, ◌∙◌, subst}
use mathlib.Core.List.{IsPrefix}
use Rattle.std.specs.declared.snapshot.Snapshot.{Snapshot}
use Rattle.chronicle.specs.Recorded.{Recorded}
use Rattle.realm.specs.History.{History}
use Rattle.realm.specs.Sessions.{IsHistory}
use Rattle.realm_actor.specs.ActorView.{Acting}
use Rattle.realm_actor.specs.Run.{EndsInStop, Ran}
use Rattle.realm_inbox.specs.EndViews.{inbox_of, received}
use Rattle.realm_inbox.specs.Seats.{InOrder}
use Rattle.realm_inbox.specs.declared.ends.Inbox.{Inbox}
use Rattle.realm_inbox.specs.declared.letter.Post.{Post}
use Rattle.broker_threads.proofs.Slots.{none_left}
use Rattle.broker_threads.specs.Acts.{Acts, first_of}
use Rattle.broker_threads.specs.Words.{AreInOrder}
use Rattle.broker_threads.specs.declared.actor_thread.ActorThread.{ActorThread}

module _ {S : Type 0} where
  -- the actor ran, and what came then was turned away
  pub acted : (w : ActorThread S) (began actor : Acting S) (ended : Snapshot (Acting S)) (between inbox : Inbox S) (chronicle : Recorded History) (came : List (Post S)) → IsHistory actor.history → began ≡ first_of w → ended.value ≡ actor → chronicle ≡ record { chronicle = actor.chronicle; history = Some actor.history }
      → actor.chronicle ≡ began.chronicle → received between ≡ received w.inbox ++ came → InOrder (received w.inbox) came → Ran began came actor → EndsInStop (received w.inbox) came → inbox_of between ≡ inbox_of w.inbox → IsPrefix (received between) (received inbox) → inbox_of inbox ≡ inbox_of between → AreInOrder actor.words
      → Acts w (record { chronicle = chronicle; actor = ended; inbox = inbox })
  acted w began actor ended between inbox chronicle came legal first last kept same given in_order ran ends here more there words =
      let none = none_left (received w.inbox) w.new in
      record {
        inbox = there ∙ here;
        chronicle = ap (λ (c : Recorded History). c.chronicle) kept ∙ same ∙ ap (λ (a : Acting S). a.chronicle) first;
        came = came;
        received = subst (λ l. IsPrefix l (received inbox)) (given ∙ ap (λ l. l ++ came) none) more;
        in_order = subst (λ l. InOrder l came) none in_order;
        ran = subst (λ (a : Acting S). Ran a came ended.value) first (subst (λ (a : Acting S). Ran began came a) (sym last) ran);
        ends = subst (λ l. EndsInStop l came) none ends;
        history = ap (λ (c : Recorded History). c.history) kept ∙ ap (λ (a : Acting S). Some a.history) (sym last);
        legal = subst (λ (a : Acting S). IsHistory a.history) (sym last) legal;
        words = subst (λ (a : Acting S). AreInOrder a.words) (sym last) words;
      }
