-- A client's whole session.
use Rattle.std.proofs.Common.{◌≡◌, ◌≢◌, ◌⊎◌, ◌<◌, ◌-◌, ◌%◌, ◌==◌, ℕ, true, false, List, [], ◌∷◌, ◌++◌, Some, All, slice_get, refl, sym, ap, ◌∙◌, subst, append_assoc, arith, inl, inr}
use Rattle.std.specs.List.{list_any}
use Rattle.std.proofs.lemmas.Option.{get_or_from_slice_get, slice_get_within}
use mathlib.Core.List.{IsPrefix}
use Rattle.broker_threads.specs.Streams.{Offer, Sight}
use Rattle.broker_threads.specs.Talks.{start_of}
use Rattle.broker_threads.specs.declared.stream_fate.SessionEnds.{SessionEnds}
use Rattle.connection.specs.declared.reader.ReadEnd.TheVariants.{ActorGone}
use Rattle.realm.specs.History.{History}
use Rattle.realm.specs.Sessions.{joined}
use Rattle.realm.specs.Yield.{owed}
use Rattle.realm_inbox.proofs.Lemmas.{at_seat_append}
use Rattle.realm_inbox.specs.Over.{was_cut}
use Rattle.realm_inbox.specs.Seats.{at_seat}
use Rattle.realm_inbox.specs.declared.act.Act as the
use Rattle.realm_inbox.specs.declared.letter.Post.TheVariants.{Stop}
use Rattle.server_laws.proofs.Leaving.{join_first, left_by}
use Rattle.server_laws.proofs.Posting.{acts_said, posted_whole, posts_there, until_first}
use Rattle.server_laws.proofs.WholeSteps.{AreInTurn, IsDone, NotJoined, Went, acts_of, clash, cut_in, entered_uncut, none_asked, not_joined_uncut, went_whole}
use Rattle.server_laws.specs.WholeSessions.{CutSessionsAreTold, until_last, SessionsGoWhole, WasCut, WasRefused, WentWhole, is_last}
use Rattle.threaded_server.specs.Histories.{IsMade, IsRealm, Realm, Start, until_stop}
use Rattle.threaded_server.specs.Lending.{Lending}
use Rattle.threaded_server.specs.Served.{IsSession, LentStream, Served}
use Rattle.threaded_server.specs.Sessions.{SaysSome}
use Rattle.threaded_server.specs.declared.answer.Answer.{Answer}
use Rattle.wamp_ids.specs.Numbers.{seat_of}
use Rattle.wamp_messages.specs.declared.item.Item.{Item}

all_at : {A : Type 0} (P : A → Type 0) (xs : List A) (i : ℕ) (x : A) → All P xs → slice_get xs i ≡ Some x → P x
all_at P xs i x h at = subst P (get_or_from_slice_get xs i x x at) (h i x (slice_get_within xs i x at))

module _ {S : Type 0} where
  -- a session that is over posted its acts in turn, and something after which nothing more counts, or nothing
  pub record Said (posted : List (the.Act S)) : Type 0 where
    pub in_turn : AreInTurn posted
    pub over : IsDone posted

  said_nothing : (posted : List (the.Act S)) → posted ≡ [] → Said posted
  said_nothing posted none = record { in_turn = λ before act after whole. absurd (nothing before act after (sym none ∙ whole)); over = λ going. none }
    where
      nothing : (before : List (the.Act S)) (act : the.Act S) (after : List (the.Act S)) → [] ≡ before ++ act ∷ after → ⊥
      nothing [] act after e = let empty : [] ≡ act ∷ after = e in cc
      nothing (b ∷ before) act after e = let empty : [] ≡ b ∷ (before ++ act ∷ after) = e in cc

  -- how it went, by what it is owed
  went_by : (c : ℕ) (posted : List (the.Act S)) (h : History) → IsDone posted → Went c posted h → WentWhole c posted h (owed h c) ⊎ (WasCut c posted h ⊎ NotJoined h c)
  went_by c posted h over (Went.before none nothing unowed dead) = inr (inr (inr (nothing, unowed)))
  went_by c posted h over (Went.serves some enter hail going alive) = absurd (some (over going))
  went_by c posted h over (Went.ended enter hail bye done dead) = inl (record { over = done; entered = enter; welcomed = hail; answered = bye })
  went_by c posted h over (Went.cut w dead) = inr (inl w)
  went_by c posted h over (Went.never some none dead) = inr (inr none)

  -- where its Join stands in the history, it has entered
  has_asked : (c : ℕ) (posted : List (the.Act S)) (h : History) → list_any (λ d. d == c) (joined h) ≡ true → WentWhole c posted h (owed h c) ⊎ (WasCut c posted h ⊎ NotJoined h c)
      → WentWhole c posted h (owed h c) ⊎ (WasCut c posted h ⊎ WasRefused h c (owed h c))
  has_asked c posted h asked (inl w) = inl w
  has_asked c posted h asked (inr (inl w)) = inr (inl w)
  has_asked c posted h asked (inr (inr (inl refused))) = inr (inr refused)
  has_asked c posted h asked (inr (inr (inr none))) = absurd (clash (list_any (λ d. d == c) (joined h)) asked (none_asked h c none.0))

  -- by whether a Cut of it stands in the history
  not_cut : (c : ℕ) (posted : List (the.Act S)) (h : History) (items : List Item) → items ≡ owed h c → was_cut h c ≡ false → WentWhole c posted h (owed h c) ⊎ (WasCut c posted h ⊎ WasRefused h c (owed h c)) → WentWhole c posted h items ⊎ WasRefused h c items
  not_cut c posted h items all uncut (inl w) = inl (subst (λ l. WentWhole c posted h l) (sym all) w)
  not_cut c posted h items all uncut (inr (inl w)) = absurd (clash (was_cut h c) (cut_in c posted h w) uncut)
  not_cut c posted h items all uncut (inr (inr refused)) = inr (subst (λ l. WasRefused h c l) (sym all) refused)

  by_cut : (c : ℕ) (posted : List (the.Act S)) (h : History) → was_cut h c ≡ true → WentWhole c posted h (owed h c) ⊎ (WasCut c posted h ⊎ NotJoined h c) → WasCut c posted h
  by_cut c posted h cut (inl w) = absurd (clash (was_cut h c) cut (entered_uncut c (until_last posted) h w.entered))
  by_cut c posted h cut (inr (inl w)) = w
  by_cut c posted h cut (inr (inr none)) = absurd (clash (was_cut h c) cut (not_joined_uncut h c none))

module _ {I O S : Type 0} where
  said_whole : (see : Sight I O) (offer : Offer) (realms : List (Realm S)) (s : LentStream I O S) (conn : ℕ) (ends : SessionEnds) → IsSession see offer realms s conn ends → ends.read ≢ ActorGone → Said s.posted
  said_whole see offer realms s conn ends h other = by_says h.says
    where
      by_says : SaysSome see.reading h.hello h.join h.source s.back.source ends.read s.posted → Said s.posted
      by_says (inl r) =
          let left = left_by (start_of h.hello) ends.read r.octets r.acts other r.says in
          record { in_turn = join_first h.join s.posted r.acts r.posted_are left.no_join; over = λ going. absurd (clash (list_any is_last s.posted) (ap (list_any is_last) r.posted_are ∙ left.last) going) }
      by_says (inr n) = said_nothing s.posted n.1

  -- what it posted is what its connection posted before the first stop
  acts_whole : (see : Sight I O) (offer : Offer) (start : Start) (before now : List Answer) (was lending : Lending I O) (asked : ℕ) (served : Served S see offer start before now was lending asked) (i : ℕ) (s : LentStream I O S) (conn : ℕ) (realm : Realm S)
      → slice_get served.early i ≡ Some s → s.conn ≡ Some conn → slice_get served.realms s.realm ≡ Some realm → (made : IsMade start realm.received realm.history) → acts_of conn made.until ≡ s.posted
  acts_whole see offer start before now was lending asked served i s conn realm at is named made =
      acts_said conn made.until ∙ posted_whole s.realm conn served.early served.streams i s (at_seat (seat_of conn) made.until) (at_seat (seat_of conn) (Stop made.halt ∷ made.first.0)) at is refl served.early_are served.numbers handled received
    where
      within : (conn - 1) % 256 < 256
      within = omega arith

      came : realm.received ≡ made.until ++ Stop made.halt ∷ made.first.0
      came = sym made.first.1 ∙ append_assoc made.until (Stop made.halt ∷ []) made.first.0

      handled : IsPrefix (posts_there s.realm (seat_of conn) served.early) (at_seat (seat_of conn) made.until)
      handled = subst (λ ps. IsPrefix (posts_there s.realm (seat_of conn) served.early) (at_seat (seat_of conn) ps)) (ap (λ ps. until_stop ps) came ∙ until_first made.until made.first.0 made.halt made.no_stop) (served.handled s.realm ((conn - 1) % 256) realm named within)

      received : at_seat (seat_of conn) made.until ++ at_seat (seat_of conn) (Stop made.halt ∷ made.first.0) ≡ posts_there s.realm (seat_of conn) served.streams
      received = sym (at_seat_append (seat_of conn) made.until (Stop made.halt ∷ made.first.0)) ∙ ap (λ ps. at_seat (seat_of conn) ps) (sym came) ∙ served.received s.realm ((conn - 1) % 256) realm named within

  went : (see : Sight I O) (offer : Offer) (start : Start) (before now : List Answer) (was lending : Lending I O) (asked : ℕ) (served : Served S see offer start before now was lending asked) (i : ℕ) (s : LentStream I O S) (conn : ℕ) (ends : SessionEnds)
      → slice_get served.early i ≡ Some s → s.conn ≡ Some conn → (h : IsSession see offer served.realms s conn ends) → ends.read ≢ ActorGone
      → WentWhole conn s.posted h.realm.history (owed h.realm.history conn) ⊎ (WasCut conn s.posted h.realm.history ⊎ NotJoined h.realm.history conn)
  went see offer start before now was lending asked served i s conn ends at is h other =
      went_by conn s.posted h.realm.history said.over (subst (λ acts. Went conn acts h.realm.history) acts (went_whole conn start.grants made.until (made.until ++ Stop made.halt ∷ []) made.halt h.realm.history (subst AreInTurn (sym acts) said.in_turn) (subst IsDone (sym acts) said.over) made.no_stop refl made.made made.legal))
    where
      made : IsMade start h.realm.received h.realm.history
      made = all_at (λ (realm : Realm S). IsRealm start realm) served.realms h.hello.realm h.realm served.histories h.named

      said : Said s.posted
      said = said_whole see offer served.realms s conn ends h other

      acts : acts_of conn made.until ≡ s.posted
      acts = acts_whole see offer start before now was lending asked served i s conn h.realm at is (ap (slice_get served.realms) h.there ∙ h.named) made

  pub sessions_go_whole : SessionsGoWhole I O S
  sessions_go_whole see offer start before now was lending asked served i s conn ends at is h other stopped =
      let so = went see offer start before now was lending asked served i s conn ends at is h other in
      (h.whole stopped, not_cut conn s.posted h.realm.history h.items (h.whole stopped) (h.uncut stopped) (has_asked conn s.posted h.realm.history (h.asked (inl stopped)) so))

  pub cut_sessions_are_told : CutSessionsAreTold I O S
  cut_sessions_are_told see offer start before now was lending asked served i s conn ends at is h other =
      let so = went see offer start before now was lending asked served i s conn ends at is h other in
      ((λ lost. ((h.lost lost).0, by_cut conn s.posted h.realm.history (h.lost lost).1 so)), (λ full. ((h.due, h.full full), has_asked conn s.posted h.realm.history (h.asked (inr (inl full))) so)))
