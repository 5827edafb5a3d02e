-- What a reader has posted when it ends.
use Rattle.std.proofs.Common.{◌≡◌, ◌≢◌, ◌⊎◌, ℕ, Bool, true, false, List, [], ◌∷◌, ◌++◌, Option, None, Some, refl, sym, ap, ◌∙◌, subst, inl, inr}
use Rattle.std.specs.Prelude.{◌||◌}
use Rattle.std.specs.List.{list_any}
use Rattle.std.proofs.Math.Bool.{or-true}
use Rattle.std.proofs.lemmas.List.Folds.{list_any-append}
use Rattle.connection.specs.Posts.{Breaks, Course, First, GoesOn, Leaves, Posts, SaysFarewell, SaysMore, Spoils, is_farewell}
use Rattle.connection.specs.Reader.{IsReadAll, IsReadBy, IsReadPartly, Start}
use Rattle.connection.specs.declared.reader.ReadEnd.{ReadEnd}
use Rattle.connection.specs.declared.reader.ReadEnd.TheVariants as read_end
use Rattle.rawsocket.specs.Frames.{Content, fault_of}
use Rattle.rawsocket.specs.declared.fault.Fault as stream
use Rattle.rawsocket.specs.declared.frame.Kind.{Kind}
use Rattle.rawsocket.specs.declared.frame.Kind.TheVariants as kind
use Rattle.rawsocket.specs.declared.handshake.Serializer.{Serializer}
use Rattle.realm.specs.Sessions.{is_last_word}
use Rattle.realm_inbox.specs.declared.act.Act as the
use Rattle.realm_inbox.specs.declared.act.Act.TheVariants.{Gone, Join, Ping, Said}
use Rattle.realm_inbox.specs.declared.joining.Joining.{Joining}
use Rattle.session.specs.Opened.{ByKind}
use Rattle.session.specs.declared.fault.Fault.{Fault}
use Rattle.server_laws.proofs.WholeSteps.{AreInTurn, InTurn, is_join}
use Rattle.server_laws.specs.WholeSessions.{is_last}
use Rattle.wamp_messages.specs.declared.said.Said.{Said as Word}
use Rattle.wamp_messages.specs.declared.said.Said.TheVariants as word

farewell_is_last : (w : Word) → is_farewell w ≡ true → is_last_word w ≡ true
farewell_is_last (word.Hello realm authid) e = refl
farewell_is_last word.Abort e = refl
farewell_is_last word.Goodbye e = refl
farewell_is_last (word.Publish asks) e = e
farewell_is_last (word.Subscribe request options topic) e = e
farewell_is_last (word.Unsubscribe request subscription) e = e

not_on : Leaves ≡ GoesOn → ⊥
not_on e = cc

not_broken : (fault : Fault) → Breaks fault ≡ GoesOn → ⊥
not_broken fault e = cc

module _ {S : Type 0} where
  -- it has posted no Join, and something after which nothing more counts
  pub record Left (acts : List (the.Act S)) : Type 0 where
    pub no_join : list_any is_join acts ≡ false
    pub last : list_any is_last acts ≡ true

  -- what frames are posted as has no Join, and such a thing unless they go on
  record IsTold (course : Course) (acts : List (the.Act S)) : Type 0 where
    pub no_join : list_any is_join acts ≡ false
    pub last : (course ≡ GoesOn → ⊥) → list_any is_last acts ≡ true

  -- one act more, before them
  one_before : (course : Course) (act : the.Act S) (acts more : List (the.Act S)) → is_join act ≡ false → acts ≡ act ∷ more → IsTold course more → IsTold course acts
  one_before course act acts more other are h = subst (IsTold course) (sym are) (record {
    no_join = ap (λ b. b || list_any is_join more) other ∙ h.no_join;
    last = λ ends. ap (λ b. is_last act || b) (h.last ends) ∙ or-true (is_last act);
  })

  told_by : (s : Serializer) (fault : Option stream.Fault) (course : Course) (frames : List Content) (acts : List (the.Act S)) → Posts s fault frames acts course → IsTold course acts
  told_by s None course [] acts h = subst (IsTold course) (sym h.0) (record { no_join = refl; last = λ ends. absurd (ends h.1) })
  told_by s (Some fault) course [] acts h = subst (IsTold course) (sym h.0) (record { no_join = refl; last = λ ends. refl })
  told_by s fault course (c ∷ frames) acts h = by_kind (told_by s fault course frames) c.kind h
    where
      Message : Type 0
      Message = SaysMore s c.payload (Posts s fault frames) acts course ⊎ (SaysFarewell s c.payload acts course ⊎ Spoils s c.payload acts course)

      by_message : ((more : List (the.Act S)) → Posts s fault frames more course → IsTold course more) → Message → IsTold course acts
      by_message below (inl m) = one_before course (Said m.said) acts m.first.more refl m.first.acts_are (below m.first.more m.first.next)
      by_message below (inr (inl m)) = subst (IsTold course) (sym m.acts_are) (record { no_join = refl; last = λ ends. ap (λ b. b || false) (farewell_is_last m.said m.leaves) })
      by_message below (inr (inr m)) = subst (IsTold course) (sym m.acts_are) (record { no_join = refl; last = λ ends. refl })

      by_kind : ((more : List (the.Act S)) → Posts s fault frames more course → IsTold course more) → (k : Kind)
          → ByKind k Message (First (Ping c.payload) (Posts s fault frames) acts course) (Posts s fault frames acts course) → IsTold course acts
      by_kind below kind.Message m = by_message below m
      by_kind below kind.Ping m = one_before course (Ping c.payload) acts m.more refl m.acts_are (below m.more m.next)
      by_kind below kind.Pong m = below acts m

  all_told : (begun : Start) (course : Course) (octets : List ℕ) (acts : List (the.Act S)) → IsReadAll begun course octets acts → IsTold course acts
  all_told begun course octets acts read = told_by begun.serializer (fault_of begun.most read.new) course (begun.early ++ read.frames) acts read.posts

  partly_told : (begun : Start) (octets : List ℕ) (acts : List (the.Act S)) → IsReadPartly begun octets acts → list_any is_join acts ≡ false
  partly_told begun octets acts (inl none) = ap (list_any is_join) none
  partly_told begun octets acts (inr part) = (told_by begun.serializer None GoesOn part.done acts part.posts).no_join

  -- and then that the client is gone
  gone_behind : (acts front : List (the.Act S)) → acts ≡ front ++ Gone ∷ [] → list_any is_join front ≡ false → Left acts
  gone_behind acts front are none = subst Left (sym are) (record {
    no_join = list_any-append is_join front (Gone ∷ []) ∙ ap (λ b. b || false) none;
    last = list_any-append is_last front (Gone ∷ []) ∙ or-true (list_any is_last front);
  })

  -- by whatever it ended, but that nobody receives any more
  pub left_by : (begun : Start) (end : ReadEnd) (octets : List ℕ) (acts : List (the.Act S)) → end ≢ read_end.ActorGone → IsReadBy begun end octets acts → Left acts
  left_by begun read_end.Left octets acts other h = let told = all_told begun Leaves octets acts h.all in record { no_join = told.no_join; last = told.last not_on }
  left_by begun (read_end.Violation fault) octets acts other h = let told = all_told begun (Breaks fault) octets acts h.all in record { no_join = told.no_join; last = told.last (not_broken fault) }
  left_by begun read_end.Ended octets acts other h = gone_behind acts h.front h.acts_are (all_told begun GoesOn octets h.front h.before).no_join
  left_by begun read_end.Device octets acts other h = gone_behind acts h.front h.acts_are (all_told begun GoesOn octets h.front h.before).no_join
  left_by begun read_end.TooManyTurns octets acts other h = gone_behind acts h.front h.acts_are (all_told begun GoesOn octets h.front h.before).no_join
  left_by begun read_end.NoMemory octets acts other h = gone_behind acts h.front h.acts_are (partly_told begun octets h.front h.before)
  left_by begun read_end.ActorGone octets acts other h = absurd (other refl)

  -- behind a Join without another each is in turn
  pub join_first : (join : Joining S) (posted acts : List (the.Act S)) → posted ≡ Join join ∷ acts → list_any is_join acts ≡ false → AreInTurn posted
  join_first join posted acts are no_join before act after whole = by_front before (sym are ∙ whole)
    where
      right : (a b : Bool) → (a || b) ≡ false → b ≡ false
      right true b e = absurd (let apart : true ≡ false = e in cc)
      right false b e = e

      left : (a b : Bool) → (a || b) ≡ false → a ≡ false
      left true b e = absurd (let apart : true ≡ false = e in cc)
      left false b e = refl

      by_front : (front : List (the.Act S)) → Join join ∷ acts ≡ front ++ act ∷ after → InTurn front act
      by_front [] e = ((λ none. let same : Join join ≡ act = cc in sym (ap is_join same)), (λ some. absurd (some refl)))
      by_front (b ∷ front) e =
          let same : acts ≡ front ++ act ∷ after = cc in
          let none : (list_any is_join front || (is_join act || list_any is_join after)) ≡ false = sym (list_any-append is_join front (act ∷ after)) ∙ ap (list_any is_join) (sym same) ∙ no_join in
          ((λ none. absurd (let empty : b ∷ front ≡ [] = none in cc)), (λ some. left (is_join act) (list_any is_join after) (right (list_any is_join front) (is_join act || list_any is_join after) none)))
