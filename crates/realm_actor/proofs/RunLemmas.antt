-- A run, post by post.
use Rattle.std.proofs.Common.{◌≡◌, ℕ, true, false, true≢false, eqb, List, [], ◌∷◌, ◌++◌, refl, sym, ap, ◌∙◌, subst, append_assoc}
use Rattle.std.proofs.lemmas.List.{append-nil}
use Rattle.std.proofs.lemmas.List.Elements.{filter-append}
use Rattle.wamp_ids.specs.Numbers.{seat_of}
use Rattle.realm.specs.Sessions.{live}
use Rattle.realm_inbox.specs.declared.act.Act as the
use Rattle.realm_inbox.specs.declared.letter.Post.{Post}
use Rattle.realm_inbox.specs.declared.letter.Post.TheVariants.{Act, Stop}
use Rattle.realm_inbox.specs.Seats.{seat_of_letter, said, adds_at, at_seat, IsNext, InOrder}
use Rattle.realm_inbox.specs.Behind.{behind, HasAll, IsBehind}
use Rattle.realm_inbox.proofs.Lemmas.{at_seat_snoc, in_order_snoc}
use Rattle.realm_actor.specs.declared.outcome.Outcome.{Outcome}
use Rattle.realm_actor.specs.ActorView.{Acting}
use Rattle.realm_actor.specs.Settle.{Sweeps}
use Rattle.realm_actor.specs.Run.{EndsInStop, Handles, Runs, none, one_more, Ran, left, stopped, is_stop, stands_at, IsNextOf, SameAtSeats}
use Rattle.realm_actor.specs.HistoryGrowth.{said_of}

module _ {S : Type 0} where
  -- the act of a post stands where the post does
  pub stands_said : (k : ℕ) (p : Post S) → stands_at k (said_of p) ≡ adds_at k p
  stands_said k (Act l) = refl
  stands_said k (Stop halt) = refl

  -- what is received next is next for who handled the same at each seat
  pub next_of_same : (acts : List (ℕ × the.Act S)) (got : List (Post S)) (p : Post S) → SameAtSeats acts got → IsNext got p → IsNextOf acts p
  next_of_same acts got (Act l) same next = next ∙ sym (same (seat_of_letter l))
  next_of_same acts got (Stop halt) same next = tt

  pub same_grown : (acts acts' : List (ℕ × the.Act S)) (got got' : List (Post S)) (p : Post S) → SameAtSeats acts got → acts' ≡ acts ++ said_of p → got' ≡ got ++ p ∷ [] → SameAtSeats acts' got'
  same_grown acts acts' got got' p same a g k =
      ap (λ t. stands_at k t) a
      ∙ filter-append (λ (x : ℕ × the.Act S). eqb (seat_of x.0) k) acts (said_of p)
      ∙ ap (λ t. t ++ stands_at k (said_of p)) (same k)
      ∙ ap (λ t. at_seat k got ++ t) (stands_said k p)
      ∙ sym (at_seat_snoc k got p)
      ∙ ap (λ t. at_seat k t) (sym g)

  -- from the actor `start`, where `front` was received: the actor now, and what is received now
  pub record Progress (start now : Acting S) (front got : List (Post S)) : Type 0 where
    pub came : List (Post S)
    pub runs : Runs start came now
    pub more : got ≡ front ++ came
    pub same : SameAtSeats now.handled got
    pub in_order : InOrder front came

  pub progress_none : (start : Acting S) (front : List (Post S)) → SameAtSeats start.handled front → Progress start start front front
  progress_none start front same = record { came = []; runs = none; more = sym (append-nil front); same = same; in_order = tt }

  module _ (start b : Acting S) (front got got' : List (Post S)) (p : Post S) (g : Progress start b front got) (given : got' ≡ got ++ p ∷ []) (next : IsNext got p) where
    now_received : got' ≡ front ++ (g.came ++ p ∷ [])
    now_received = given ∙ ap (λ x. x ++ p ∷ []) g.more ∙ append_assoc front g.came (p ∷ [])

    now_in_order : InOrder front (g.came ++ p ∷ [])
    now_in_order = in_order_snoc front g.came p g.in_order (subst (λ x. IsNext x p) g.more next)

  pub progress_on : (start b c d : Acting S) (front got got' : List (Post S)) (result : Outcome) (p : Post S) → is_stop p ≡ false → Progress start b front got → Sweeps b c
      → got' ≡ got ++ p ∷ [] → IsNext got p → Handles result p c d → Progress start d front got'
  progress_on start b c d front got got' result (Stop halt) other g s given next handles = absurd (true≢false other)
  progress_on start b c d front got got' result (Act l) other g s given next handles = record {
    came = g.came ++ Act l ∷ [];
    runs = one_more l g.runs s handles;
    more = now_received start b front got got' (Act l) g given next;
    same = same_grown b.handled d.handled got got' (Act l) g.same (handles.handled ∙ ap (λ x. x ++ said l ∷ []) s.handled) given;
    in_order = now_in_order start b front got got' (Act l) g given next;
  }

  -- what a run promises
  abbrev pub Ends : Acting S → Acting S → List (Post S) → List (Post S) → Type 0
  Ends start now front got = (came : List (Post S)) × (got ≡ front ++ came) × InOrder front came × Ran start came now

  pub ends_left : (start b c : Acting S) (front got got' : List (Post S)) → Progress start b front got → Sweeps b c → got' ≡ got → Ends start c front got'
  ends_left start b c front got got' g s is = (g.came, is ∙ g.more, g.in_order, left g.runs s)

  -- and where its last post is a stop
  abbrev pub EndsByStop : Acting S → Acting S → List (Post S) → List (Post S) → Type 0
  EndsByStop start now front got = (ends : Ends start now front got) × EndsInStop front ends.0

  pub ends_stopped : (start b c d : Acting S) (front got got' : List (Post S)) (result : Outcome) (p : Post S) → is_stop p ≡ true → Progress start b front got → Sweeps b c
      → got' ≡ got ++ p ∷ [] → IsNext got p → IsBehind got p → Handles result p c d → EndsByStop start d front got'
  ends_stopped start b c d front got got' result (Act l) other g s given next after handles = absurd (true≢false (sym other))
  ends_stopped start b c d front got got' result (Stop halt) other g s given next after handles = (
    (
      g.came ++ Stop halt ∷ [],
      now_received start b front got got' (Stop halt) g given next,
      now_in_order start b front got got' (Stop halt) g given next,
      stopped halt g.runs s handles,
    ),
    (g.came, halt, refl, subst (λ x. HasAll x (behind halt)) g.more after),
  )

  -- nobody is live behind a stop
  pub none_behind_stop : (c d : Acting S) (result : Outcome) (p : Post S) → is_stop p ≡ true → Handles result p c d → (k : ℕ) → live d.history k ≡ false
  none_behind_stop c d result (Act l) is handles = absurd (true≢false (sym is))
  none_behind_stop c d result (Stop halt) is handles = handles.does.none_live
