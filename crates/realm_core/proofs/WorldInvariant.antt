-- What holds of a new world, and after each step.
use Rattle.std.proofs.Common.{◌≡◌, ℕ, Bool, true, false, cond, eqb, List, [], ◌∷◌, ◌++◌, refl, sym, ap, subst, ◌∙◌, append-nil, append_assoc, inl, inr}
use Rattle.std.specs.declared.option.Option.{Option}
use Rattle.std.specs.List.{filter}
use Rattle.std.proofs.lemmas.Bool.{eqb-true, or_cases, or_left, or_right}
use Rattle.std.proofs.lemmas.List.Elements.{filter-append}
use Rattle.wamp_messages.specs.declared.item.Item.TheVariants.{Event}
use Rattle.realm.specs.declared.entry.Entry.{Entry}
use Rattle.realm.specs.declared.entry.Entry.TheVariants.{Cut}
use Rattle.realm_core.specs.declared.step.Step.{Step}
use Rattle.realm_core.specs.declared.step.Step.TheVariants.{Post, Accept, Lose, Push, Take, Leave}
use Rattle.realm_core.specs.declared.step.Stepped.{Stepped}
use Rattle.realm_core.specs.declared.step.Stepped.TheVariants.{Posted, Accepted, Dropped, Lost, Pushed, FoundFull, Took, Left, Idle}
use Rattle.realm.specs.Grants.{Grants}
use Rattle.realm.specs.Sessions.{conn_of, live, IsHistory}
use Rattle.realm.specs.Yield.{owed}
use Rattle.realm.specs.Given.{items_for}
use Rattle.realm.specs.Laws.{BeginsList, OwedOnlyGrows, EventsFollowSubscribed, EventsAreAdmitted, EventsWhileSubscribed}
use Rattle.realm.specs.DueEvents.{EventsAreDue, DueEventsAreGiven}
use Rattle.realm.specs.PublisherOrder.{PublishersKeepOrder}
use Rattle.realm_core.specs.Worlds.{Course, new_world, is_in, marked, unless_any, EntersIfLive, Posts, Accepts, Loses, Pushes, Takes, Leaves, Moves, Reaches, IsReached}
use Rattle.realm.specs.PostedOrder.{said_by, posts_of, joins_first_alone, AreSome, Ordered}
use Rattle.realm_core.specs.PostedOrder.{KeepsPostedOrder}
use Rattle.realm_core.specs.Delivery.{CutsHaveCauses, TakenBeginsOwed, TakesSubscribedFirst, DeliversExactly, TakesInPublishersOrder, AllIsThere, Delivers}
use Rattle.realm_core.specs.body.Marks.{NoneJoinsAgain}
use Rattle.realm_core.proofs.AddedBeginsOwed.{Owing, owing-enters, owing-pushed, owing-found, owing-marked}
use Rattle.realm_core.proofs.QueueLemmas.{Queued, queued-begun, queued-pushed, queued-taken}
use Rattle.realm.proofs.Lemmas.{some-more, joins-before, order-begun, order-accepted, order-dropped, order-lost, order-cut, order-lost-cut}
use Rattle.realm_core.proofs.ItemOrigin.{takes-what-is-due, delivers-exactly}
use Rattle.realm_core.proofs.MarkLemmas.{HaveJoined, joined-enters, joined-rest, joined-more}
use Rattle.realm_core.proofs.CutsHaveCauses.{HaveCauses, causes-accepted, causes-handled, causes-lost, causes-lost-cut, causes-left, causes-marked, causes-posted}

-- what holds of each world that a schedule makes
pub record Sound (w : Course) : Type 0 where
  -- the posts that left the inbox
  pub handled : List Entry
  pub posted : w.posted ≡ handled ++ w.inbox
  pub is_history : IsHistory w.history
  pub queued : Queued w.outbox_cap w.added w.taken
  pub owing : Owing w.history w.added w.pushing w.full
  pub causes : HaveCauses w.history w.full w.lost handled
  pub ordered : Ordered w.history handled
  pub joined : HaveJoined w.history w.full w.pushing

pub sound-new : (grants : Grants) (inbox_cap outbox_cap : ℕ) → Sound (new_world grants inbox_cap outbox_cap)
sound-new grants inbox_cap outbox_cap = record {
  handled = [];
  posted = refl;
  is_history = tt;
  queued = queued-begun outbox_cap;
  owing = record { begins = λ c. ([], refl); all = λ c free. refl };
  causes = λ c cut. absurd (cc);
  ordered = order-begun grants;
  joined = record { found = λ c here. absurd (cc); pushed = λ c there. absurd (cc) };
}

pub unless-front : {X Y : Type 0} (xs : List X) (ys rest : List Y) (y : Y) → unless_any xs ys ≡ y ∷ rest → (xs ≡ []) × (ys ≡ y ∷ rest)
unless-front [] ys rest y e = (refl, e)
unless-front (x ∷ xs) ys rest y e = absurd (cc)

pub unless-in : {X : Type 0} (xs : List X) (cs : List ℕ) (c : ℕ) → is_in c (unless_any xs cs) ≡ true → (xs ≡ []) × (is_in c cs ≡ true)
unless-in [] cs c here = (refl, here)
unless-in (x ∷ xs) cs c here = absurd (cc)

pub in-filter : (p : ℕ → Bool) (cs : List ℕ) (c : ℕ) → is_in c (filter p cs) ≡ true → (is_in c cs ≡ true) × (p c ≡ true)
in-filter p [] c here = absurd (cc)
in-filter p (d ∷ cs) c here = at (p d) refl (λ later. in-filter p cs c later) here
  where
    at : (b : Bool) → p d ≡ b → (is_in c (filter p cs) ≡ true → (is_in c cs ≡ true) × (p c ≡ true))
        → is_in c (cond b (d ∷ filter p cs) (filter p cs)) ≡ true → (is_in c (d ∷ cs) ≡ true) × (p c ≡ true)
    at true passes rest any = elim (or_cases (eqb d c) (is_in c (filter p cs)) any) [
      | inl same ↦ (or_left (eqb d c) (is_in c cs) same, ap p (sym (eqb-true d c same)) ∙ passes)
      | inr later ↦ (or_right (eqb d c) (is_in c cs) (rest later).0, (rest later).1)
    ]
    at false fails rest later = (or_right (eqb d c) (is_in c cs) (rest later).0, (rest later).1)

-- the front post is taken
handled-next : (w : Course) (s : Sound w) (e : Entry) (rest : List Entry) → w.inbox ≡ e ∷ rest → w.posted ≡ (s.handled ++ e ∷ []) ++ rest
handled-next w s e rest front = s.posted ∙ ap (λ l. s.handled ++ l) front ∙ sym (append_assoc s.handled (e ∷ []) rest)

sound-posts : (w : Course) (e : Entry) (stepped : Stepped) (v : Course) → Sound w → Posts w e stepped v → Sound v
sound-posts w e Posted v s m = subst Sound (sym m.1) (record {
  handled = s.handled;
  posted = ap (λ l. l ++ e ∷ []) s.posted ∙ append_assoc s.handled w.inbox (e ∷ []);
  is_history = s.is_history;
  queued = s.queued;
  owing = s.owing;
  causes = s.causes;
  ordered = s.ordered;
  joined = s.joined;
})
sound-posts w e Idle v s m = subst Sound (sym m.1) s
sound-posts w e stepped v s m = absurd m

sound-accepts : (w : Course) (stepped : Stepped) (v : Course) → Sound w → Accepts w stepped v → Sound v
sound-accepts w Accepted v s (e, rest, front, come, enters) =
    let quiet = unless-front w.pushing (unless_any (marked w) w.inbox) rest e front in
    let next = unless-front (marked w) w.inbox rest e quiet.1 in
    let owing : Owing w.history w.added [] w.full = subst (λ l. Owing w.history w.added l w.full) quiet.0 s.owing in
    subst Sound (sym enters.after) (record {
      handled = s.handled ++ e ∷ [];
      posted = handled-next w s e rest next.1;
      is_history = (s.is_history, come);
      queued = s.queued;
      owing = owing-enters w.history e w.added enters.given w.full owing enters.exactly;
      causes = causes-accepted w.history w.full w.lost s.handled e s.causes;
      ordered = order-accepted w.history s.handled e s.ordered come;
      joined = joined-enters w.history e w.full w.pushing enters.given come enters.exactly s.joined;
    })
sound-accepts w Dropped v s (e, rest, front, refused, after) =
    let quiet = unless-front w.pushing (unless_any (marked w) w.inbox) rest e front in
    let next = unless-front (marked w) w.inbox rest e quiet.1 in
    subst Sound (sym after) (record {
      handled = s.handled ++ e ∷ [];
      posted = handled-next w s e rest next.1;
      is_history = s.is_history;
      queued = s.queued;
      owing = s.owing;
      causes = causes-handled w.history w.full w.lost s.handled e s.causes;
      ordered = order-dropped w.history s.handled e s.ordered refused;
      joined = s.joined;
    })
sound-accepts w Idle v s m = subst Sound (sym m.1) s
sound-accepts w stepped v s m = absurd m

sound-loses : (w : Course) (word : Option ℕ) (stepped : Stepped) (v : Course) → Sound w → Loses w word stepped v → Sound v
sound-loses w word Lost v s (e, rest, front, loses) =
    let quiet = unless-front w.pushing (unless_any (marked w) w.inbox) rest e front in
    let next = unless-front (marked w) w.inbox rest e quiet.1 in
    at quiet.0 next.1 (live w.history (conn_of e)) refl loses
  where
    at : w.pushing ≡ [] → w.inbox ≡ e ∷ rest → (b : Bool) → live w.history (conn_of e) ≡ b
        → EntersIfLive b (record w { inbox = rest; lost = w.lost ++ e ∷ [] }) (Cut (conn_of e) word) v → Sound v
    at nothing next true is_live enters = subst Sound (sym enters.after) (record {
      handled = s.handled ++ e ∷ [];
      posted = handled-next w s e rest next;
      is_history = (s.is_history, is_live);
      queued = s.queued;
      owing = owing-enters w.history (Cut (conn_of e) word) w.added enters.given w.full (subst (λ l. Owing w.history w.added l w.full) nothing s.owing) enters.exactly;
      causes = causes-lost-cut w.history w.full w.lost s.handled e word s.causes;
      ordered = order-lost-cut w.history s.handled e word s.ordered;
      joined = joined-enters w.history (Cut (conn_of e) word) w.full w.pushing enters.given is_live enters.exactly s.joined;
    })
    at nothing next false dead after = subst Sound (sym after) (record {
      handled = s.handled ++ e ∷ [];
      posted = handled-next w s e rest next;
      is_history = s.is_history;
      queued = s.queued;
      owing = s.owing;
      causes = causes-lost w.history w.full w.lost s.handled e s.causes;
      ordered = order-lost w.history s.handled e s.ordered dead;
      joined = s.joined;
    })
sound-loses w word Idle v s m = subst Sound (sym m.1) s
sound-loses w word stepped v s m = absurd m

sound-pushes : (w : Course) (stepped : Stepped) (v : Course) → Sound w → Pushes w stepped v → Sound v
sound-pushes w Pushed v s (c, item, rest, front, free, room, after) = subst Sound (sym after) (record {
  handled = s.handled;
  posted = s.posted;
  is_history = s.is_history;
  queued = queued-pushed w.outbox_cap c item w.added w.taken s.queued room;
  owing = owing-pushed w.history c item w.added rest w.full (subst (λ l. Owing w.history w.added l w.full) front s.owing) free;
  causes = s.causes;
  ordered = s.ordered;
  joined = joined-rest w.history w.full w.pushing rest (c, item) front s.joined;
})
sound-pushes w FoundFull v s (c, item, rest, front, found) = elim found [
  | inl before ↦ subst Sound (sym before.1) (record {
    handled = s.handled;
    posted = s.posted;
    is_history = s.is_history;
    queued = s.queued;
    owing = owing-found w.history c item w.added rest w.full (subst (λ l. Owing w.history w.added l w.full) front s.owing) before.0;
    causes = s.causes;
    ordered = s.ordered;
    joined = joined-rest w.history w.full w.pushing rest (c, item) front s.joined;
  })
  | inr now ↦ subst Sound (sym now.2) (record {
    handled = s.handled;
    posted = s.posted;
    is_history = s.is_history;
    queued = s.queued;
    owing = owing-marked w.history c item w.added rest w.full (subst (λ l. Owing w.history w.added l w.full) front s.owing);
    causes = causes-marked w.history w.full w.lost s.handled c s.causes;
    ordered = s.ordered;
    joined = joined-more w.history w.full w.pushing rest c item front s.joined;
  })
]
sound-pushes w Idle v s m = subst Sound (sym m.1) s
sound-pushes w stepped v s m = absurd m

sound-takes : (w : Course) (c : ℕ) (stepped : Stepped) (v : Course) → Sound w → Takes w c stepped v → Sound v
sound-takes w c (Took item) v s (rest, front, after) = subst Sound (sym after) (record {
  handled = s.handled;
  posted = s.posted;
  is_history = s.is_history;
  queued = queued-taken w.outbox_cap c item rest w.added w.taken s.queued front;
  owing = s.owing;
  causes = s.causes;
  ordered = s.ordered;
  joined = s.joined;
})
sound-takes w c Idle v s m = subst Sound (sym m.1) s
sound-takes w c stepped v s m = absurd m

sound-leaves : (w : Course) (word : Option ℕ) (stepped : Stepped) (v : Course) → Sound w → Leaves w word stepped v → Sound v
sound-leaves w word Left v s (c, least, enters) =
    let quiet = unless-in w.pushing (marked w) c least.among in
    let mark = in-filter (live w.history) w.full c quiet.1 in
    subst Sound (sym enters.after) (record {
      handled = s.handled;
      posted = s.posted;
      is_history = (s.is_history, mark.1);
      queued = s.queued;
      owing = owing-enters w.history (Cut c word) w.added enters.given w.full (subst (λ l. Owing w.history w.added l w.full) quiet.0 s.owing) enters.exactly;
      causes = causes-left w.history w.full w.lost s.handled c word mark.0 s.causes;
      ordered = order-cut w.history s.handled c word s.ordered;
      joined = joined-enters w.history (Cut c word) w.full w.pushing enters.given mark.1 enters.exactly s.joined;
    })
sound-leaves w word Idle v s m = subst Sound (sym m.1) s
sound-leaves w word stepped v s m = absurd m

pub sound-moves : (w : Course) (step : Step) (stepped : Stepped) (v : Course) → Sound w → Moves w step stepped v → Sound v
sound-moves w (Post e) stepped v s m = sound-posts w e stepped v s m
sound-moves w Accept stepped v s m = sound-accepts w stepped v s m
sound-moves w (Lose word) stepped v s m = sound-loses w word stepped v s m
sound-moves w Push stepped v s m = sound-pushes w stepped v s m
sound-moves w (Take c) stepped v s m = sound-takes w c stepped v s m
sound-moves w (Leave word) stepped v s m = sound-leaves w word stepped v s m

pub sound-reached : (w : Course) (steps : List Step) (v : Course) → Sound w → Reaches w steps v → Sound v
sound-reached w [] v s r = subst Sound (sym r) s
sound-reached w (step ∷ steps) v s (stepped, u, moves, reaches) = sound-reached u steps v (sound-moves w step stepped u s moves) reaches

pub sound-of : (w : Course) → IsReached w → Sound w
sound-of w r = sound-reached (new_world r.grants r.inbox_cap r.outbox_cap) r.steps w (sound-new r.grants r.inbox_cap r.outbox_cap) r.reaches

-- whoever was found full joins no more
pub none-joins-again : (w : Course) → IsReached w → NoneJoinsAgain w.history w.full
none-joins-again w r = (sound-of w r).joined.found

-- what follows from that
begins-through : {X : Type 0} (xs ys zs : List X) → BeginsList xs ys → BeginsList ys zs → BeginsList xs zs
begins-through xs ys zs a b = (a.0 ++ b.0, b.1 ∙ ap (λ l. l ++ b.0) a.1 ∙ append_assoc xs a.0 b.0)

pub keeps-order : (w : Course) → Sound w → KeepsPostedOrder w
keeps-order w s = record {
  some = λ c. subst (λ l. AreSomeOf c l) (sym s.posted) (subst (λ l. AreSomeList c l) (sym (posts c)) (some-more (said_by c w.history) (posts_of c s.handled) (posts_of c w.inbox) (s.ordered.some c)));
  begins = λ c joins. at c (ap joins_first_alone (sym (posts c) ∙ ap (posts_of c) (sym s.posted)) ∙ joins);
}
  where
    posts : (c : ℕ) → posts_of c (s.handled ++ w.inbox) ≡ posts_of c s.handled ++ posts_of c w.inbox
    posts c = filter-append (λ e. eqb (conn_of e) c) s.handled w.inbox

    AreSomeList : ℕ → List Entry → Type 0
    AreSomeList c l = AreSome (said_by c w.history) l

    AreSomeOf : ℕ → List Entry → Type 0
    AreSomeOf c l = AreSome (said_by c w.history) (posts_of c l)

    at : (c : ℕ) → joins_first_alone (posts_of c s.handled ++ posts_of c w.inbox) ≡ true → BeginsList (said_by c w.history) (posts_of c w.posted)
    at c joins =
        let b = s.ordered.begins c (joins-before (posts_of c s.handled) (posts_of c w.inbox) joins) in
        (b.0 ++ posts_of c w.inbox, ap (posts_of c) s.posted ∙ posts c ∙ ap (λ l. l ++ posts_of c w.inbox) b.1 ∙ append_assoc (said_by c w.history) b.0 (posts_of c w.inbox))

pub taken-begins-owed : (w : Course) → Sound w → TakenBeginsOwed w
taken-begins-owed w s c = begins-through (items_for c w.taken) (items_for c w.added) (owed w.history c) (s.queued.begins c) (s.owing.begins c)

pub subscribed-first : EventsFollowSubscribed → (w : Course) → Sound w → TakesSubscribedFirst w
subscribed-first follow w s c n p with_topic retained before after taken =
    let b = taken-begins-owed w s c in
    follow w.history c n p with_topic retained before (after ++ b.0) s.is_history
    (b.1 ∙ ap (λ l. l ++ b.0) taken ∙ append_assoc before (Event n p with_topic retained ∷ after) b.0)

pub cuts-have-causes : (w : Course) → Sound w → CutsHaveCauses w
cuts-have-causes w s = subst (λ l. HaveCauses w.history w.full w.lost l) (sym s.posted) (causes-posted w.history w.full w.lost s.handled w.inbox s.causes)

pub all-is-there : (w : Course) → Sound w → AllIsThere w
all-is-there w s c free nothing =
    sym (append-nil (items_for c w.added)) ∙ ap (λ l. items_for c w.added ++ items_for c l) (sym nothing) ∙ s.owing.all c free

-- the laws of histories on which the rest stands
pub record HistoryLaws : Type 0 where
  pub follow : EventsFollowSubscribed
  pub admitted : EventsAreAdmitted
  pub subscribed : EventsWhileSubscribed
  pub due : EventsAreDue
  pub given : DueEventsAreGiven
  pub grows : OwedOnlyGrows
  pub publishers : PublishersKeepOrder

pub exactly : HistoryLaws → (w : Course) → Sound w → DeliversExactly w
exactly laws w s = delivers-exactly laws.due laws.given laws.grows w (taken-begins-owed w s) s.owing.begins s.owing.all

pub in-publishers-order : HistoryLaws → (w : Course) → Sound w → TakesInPublishersOrder w
in-publishers-order laws w s c d = laws.publishers w.history c d (items_for d w.taken) (taken-begins-owed w s d)

pub delivers : HistoryLaws → (w : Course) → Sound w → Delivers w
delivers laws w s = record {
  is_history = s.is_history;
  taken = taken-begins-owed w s;
  taken_of_added = s.queued.begins;
  added_of_owed = s.owing.begins;
  due = takes-what-is-due laws.admitted laws.subscribed w s.is_history (taken-begins-owed w s);
  exactly = exactly laws w s;
  publishers = in-publishers-order laws w s;
  subscribed_first = subscribed-first laws.follow w s;
  all_added = s.owing.all;
  all_there = all-is-there w s;
  cuts = cuts-have-causes w s;
  order = keeps-order w s;
}
