-- Frames that are posted one by one.
use Rattle.std.proofs.Common.{◌≡◌, ◌≢◌, ◌⊎◌, ℕ, List, [], ◌∷◌, ◌++◌, Option, Some, None, Result, Ok, Err, IfErr, OnOk, OnErr, true, false, inl, inr, refl, sym, ap, ◌∙◌, subst, append_assoc, append-nil}
use Rattle.rawsocket.specs.Deframer.{Deframing}
use Rattle.rawsocket.specs.Frames.{Content}
use Rattle.rawsocket.specs.declared.fault.Fault as stream
use Rattle.rawsocket.specs.declared.frame.Kind.{Kind}
use Rattle.rawsocket.specs.declared.frame.Kind.TheVariants as kind
use Rattle.rawsocket.specs.declared.handshake.Serializer.{Serializer}
use Rattle.connection.specs.Posts.{Course, GoesOn, Leaves, Breaks, First, Says, SaysMore, SaysFarewell, SaysNothing, Spoils, Posts, is_farewell}
use Rattle.connection.specs.Reader.{PostsAll, PostsSome, IsPosted, batch}
use Rattle.session.specs.Opened.{ByKind}
use Rattle.session.specs.Faults.{stream_fault}
use Rattle.session.specs.declared.fault.Fault.{Fault}
use Rattle.wamp_messages.specs.declared.said.Said as session
use Rattle.realm_inbox.specs.Posted.{Posted, with_acts}
use Rattle.realm_inbox.proofs.PosterLemmas.{with_both, with_none}
use Rattle.realm_inbox.specs.declared.act.Act.{Act}
use Rattle.realm_inbox.specs.declared.act.Act.TheVariants as act
use Rattle.connection.specs.declared.reader.ReadEnd.{ReadEnd}
use Rattle.connection.specs.declared.reader.ReadEnd.TheVariants as reader

-- a deframer that takes so many octets, and holds these
abbrev pub deframing : ℕ → List ℕ → Deframing
deframing most held = record { most = most; held = held }

-- the posts of a frame of this kind, and of those behind it
abbrev PostsBy : {S : Type 0} → Serializer → List ℕ → (List (Act S) → Course → Type 0) → Kind → List (Act S) → Course → Type 0
PostsBy s payload Next k acts course =
    ByKind k
    (SaysMore s payload Next acts course ⊎ (SaysFarewell s payload acts course ⊎ Spoils s payload acts course))
    (First (act.Ping payload) Next acts course)
    (Next acts course)

module _ {S : Type 0} (s : Serializer) where
  -- an act stands before what follows, however the rest goes on
  first_join : (a : Act S) (Next More : List (Act S) → Course → Type 0) (acts more : List (Act S)) (here there : Course) → ((xs : List (Act S)) → Next xs here → More (xs ++ more) there) → First a Next acts here → First a More (acts ++ more) there
  first_join a Next More acts more here there next w = record { more = w.more ++ more; acts_are = ap (λ xs. xs ++ more) w.acts_are; next = next w.more w.next }

  by_join : (k : Kind) (payload : List ℕ) (Next More : List (Act S) → Course → Type 0) (acts more : List (Act S)) (there : Course) → ((xs : List (Act S)) → Next xs GoesOn → More (xs ++ more) there)
      → PostsBy s payload Next k acts GoesOn → PostsBy s payload More k (acts ++ more) there
  by_join kind.Message payload Next More acts more there next (inl talks) = inl (record {
    said = talks.said;
    says = talks.says;
    stays = talks.stays;
    first = first_join (act.Said talks.said) Next More acts more GoesOn there next talks.first;
  })
  by_join kind.Message payload Next More acts more there next (inr (inl parts)) = absurd (let never : GoesOn ≡ Leaves = parts.course_is in cc)
  by_join kind.Message payload Next More acts more there next (inr (inr spoils)) = absurd (let never : GoesOn ≡ Breaks spoils.fault = spoils.course_is in cc)
  by_join kind.Ping payload Next More acts more there next w = first_join (act.Ping payload) Next More acts more GoesOn there next w
  by_join kind.Pong payload Next More acts more there next w = next acts w

  -- where nothing ended, the next frames go on
  pub Posts-join : (before fault : Option stream.Fault) (a b : List Content) (acts more : List (Act S)) (course : Course) → Posts s before a acts GoesOn → Posts s fault b more course → Posts s fault (a ++ b) (acts ++ more) course
  Posts-join None fault [] b acts more course w next = subst (λ xs. Posts s fault b (xs ++ more) course) (sym w.0) next
  Posts-join (Some f) fault [] b acts more course w next = absurd (let never : GoesOn ≡ _ = w.1 in cc)
  Posts-join before fault (c ∷ a) b acts more course w next =
      by_join c.kind c.payload (Posts s before a) (Posts s fault (a ++ b)) acts more course (λ xs u. Posts-join before fault a b xs more course u next) w

  by_other : (k : Kind) (payload : List ℕ) (Next More : List (Act S) → Course → Type 0) (acts : List (Act S)) (course : Course) → ((xs : List (Act S)) → Next xs course → More xs course) → PostsBy s payload Next k acts course → PostsBy s payload More k acts course
  by_other kind.Message payload Next More acts course next (inl talks) = inl (record {
    said = talks.said;
    says = talks.says;
    stays = talks.stays;
    first = record { more = talks.first.more; acts_are = talks.first.acts_are; next = next talks.first.more talks.first.next };
  })
  by_other kind.Message payload Next More acts course next (inr ends) = inr ends
  by_other kind.Ping payload Next More acts course next w = record { more = w.more; acts_are = w.acts_are; next = next w.more w.next }
  by_other kind.Pong payload Next More acts course next w = next acts w

  -- where it ended, what stands behind says nothing
  pub Posts-ended : (fault : Option stream.Fault) (a b : List Content) (acts : List (Act S)) (course : Course) → course ≢ GoesOn → Posts s None a acts course → Posts s fault (a ++ b) acts course
  Posts-ended fault [] b acts course ended w = absurd (ended w.1)
  Posts-ended fault (c ∷ a) b acts course ended w = by_other c.kind c.payload (Posts s None a) (Posts s fault (a ++ b)) acts course (λ xs u. Posts-ended fault a b xs course ended u) w

  -- where it goes on, nothing is at fault
  pub Posts-open : (fault : Option stream.Fault) (a : List Content) (acts : List (Act S)) → Posts s fault a acts GoesOn → Posts s None a acts GoesOn
  Posts-open None [] acts w = w
  Posts-open (Some f) [] acts w = absurd (let never : GoesOn ≡ _ = w.1 in cc)
  Posts-open fault (c ∷ a) acts w = by_other c.kind c.payload (Posts s fault a) (Posts s None a) acts GoesOn (λ xs u. Posts-open fault a xs u) w

  -- these frames are left, and the posts of those before them are posted
  pub record Halfway (frames left : List Content) (before now : Posted S) : Type 0 where
    pub done : List Content
    pub frames_are : frames ≡ done ++ left
    pub acts : List (Act S)
    pub posted : now ≡ with_acts before acts
    pub posts : Posts s None done acts GoesOn

  pub Halfway-start : (frames left : List Content) (before : Posted S) → frames ≡ left → Halfway frames left before before
  Halfway-start frames left before e = record { done = []; frames_are = e; acts = []; posted = sym (with_none before); posts = (refl, refl) }

  -- all that is left is posted
  all_posted : (fault : Option stream.Fault) (frames left : List Content) (course : Course) (before now after : Posted S) → Halfway frames left before now → PostsAll s (batch left fault) course now after → PostsAll s (batch frames fault) course before after
  all_posted fault frames left course before now after h w = record {
    acts = h.acts ++ w.acts;
    posted = w.posted ∙ ap (λ p. with_acts p w.acts) h.posted ∙ with_both before h.acts w.acts;
    posts = subst (λ fs. Posts s fault fs (h.acts ++ w.acts) course) (sym h.frames_are) (Posts-join None fault h.done left h.acts w.acts course h.posts w.posts);
  }

  some_posted : (frames left : List Content) (before now after : Posted S) → Halfway frames left before now → PostsSome s left now after → PostsSome s frames before after
  some_posted frames left before now after h w = record {
    done = h.done ++ w.done;
    left = w.left;
    frames_are = h.frames_are ∙ ap (λ fs. h.done ++ fs) w.frames_are ∙ sym (append_assoc h.done w.done w.left);
    acts = h.acts ++ w.acts;
    posted = w.posted ∙ ap (λ p. with_acts p w.acts) h.posted ∙ with_both before h.acts w.acts;
    posts = Posts-join None None h.done w.done h.acts w.acts GoesOn h.posts w.posts;
  }

  pub Halfway-more : (frames : List Content) (frame : Content) (left : List Content) (before now after : Posted S) → Halfway frames (frame ∷ left) before now → PostsAll s (batch (frame ∷ []) None) GoesOn now after → Halfway frames left before after
  Halfway-more frames frame left before now after h w = record {
    done = h.done ++ frame ∷ [];
    frames_are = h.frames_are ∙ sym (append_assoc h.done (frame ∷ []) left);
    acts = h.acts ++ w.acts;
    posted = w.posted ∙ ap (λ p. with_acts p w.acts) h.posted ∙ with_both before h.acts w.acts;
    posts = Posts-join None None h.done (frame ∷ []) h.acts w.acts GoesOn h.posts w.posts;
  }

  -- the posts of one frame that end, as those of all frames
  ended_all : (fault : Option stream.Fault) (frames : List Content) (frame : Content) (left : List Content) (course : Course) (before now after : Posted S) → course ≢ GoesOn
      → Halfway frames (frame ∷ left) before now → PostsAll s (batch (frame ∷ []) None) course now after → PostsAll s (batch frames fault) course before after
  ended_all fault frames frame left course before now after ended h w =
      all_posted fault frames (frame ∷ left) course before now after h (record { acts = w.acts; posted = w.posted; posts = Posts-ended fault (frame ∷ []) left w.acts course ended w.posts })

  ended_some : (frames : List Content) (frame : Content) (left : List Content) (before now after : Posted S) → Halfway frames (frame ∷ left) before now → PostsSome s (frame ∷ []) now after → PostsSome s frames before after
  ended_some frames frame left before now after h w = some_posted frames (frame ∷ left) before now after h (record {
    done = w.done;
    left = w.left ++ left;
    frames_are = ap (λ fs. fs ++ left) w.frames_are ∙ append_assoc w.done w.left left;
    acts = w.acts;
    posted = w.posted;
    posts = w.posts;
  })

  pub Halfway-ends : (end : ReadEnd) (fault : Option stream.Fault) (frames : List Content) (frame : Content) (left : List Content) (before now after : Posted S) → Halfway frames (frame ∷ left) before now
      → IsPosted s (batch (frame ∷ []) None) now after (Err end) → IsPosted s (batch frames fault) before after (Err end)
  Halfway-ends reader.Left fault frames frame left before now after h w = ended_all fault frames frame left Leaves before now after (λ (e : Leaves ≡ GoesOn). cc) h w
  Halfway-ends (reader.Violation f) fault frames frame left before now after h w = ended_all fault frames frame left (Breaks f) before now after (λ (e : Breaks f ≡ GoesOn). cc) h w
  Halfway-ends reader.NoMemory fault frames frame left before now after h w = ended_some frames frame left before now after h w
  Halfway-ends reader.ActorGone fault frames frame left before now after h w = ended_some frames frame left before now after h w
  Halfway-ends reader.Ended fault frames frame left before now after h w = absurd w
  Halfway-ends reader.Device fault frames frame left before now after h w = absurd w
  Halfway-ends reader.TooManyTurns fault frames frame left before now after h w = absurd w

  -- all frames are posted, and then what stands behind them
  pub Halfway-last : (result : Result Unit ReadEnd) (fault : Option stream.Fault) (frames left : List Content) (before now after : Posted S) → left ≡ [] → Halfway frames left before now
      → IsPosted s (batch [] fault) now after result → IsPosted s (batch frames fault) before after result
  Halfway-last (Ok u) fault frames left before now after none h w = all_posted fault frames [] GoesOn before now after (subst (λ fs. Halfway frames fs before now) none h) w
  Halfway-last (Err reader.Left) fault frames left before now after none h w = all_posted fault frames [] Leaves before now after (subst (λ fs. Halfway frames fs before now) none h) w
  Halfway-last (Err (reader.Violation f)) fault frames left before now after none h w = all_posted fault frames [] (Breaks f) before now after (subst (λ fs. Halfway frames fs before now) none h) w
  Halfway-last (Err reader.NoMemory) fault frames left before now after none h w = some_posted frames [] before now after (subst (λ fs. Halfway frames fs before now) none h) w
  Halfway-last (Err reader.ActorGone) fault frames left before now after none h w = some_posted frames [] before now after (subst (λ fs. Halfway frames fs before now) none h) w
  Halfway-last (Err reader.Ended) fault frames left before now after none h w = absurd w
  Halfway-last (Err reader.Device) fault frames left before now after none h w = absurd w
  Halfway-last (Err reader.TooManyTurns) fault frames left before now after none h w = absurd w

  -- the posts of a frame that is the same
  pub posted_as : (result : Result Unit ReadEnd) (k l : Kind) (p q : List ℕ) (before now : Posted S) → k ≡ l → p ≡ q → let frame : Kind → List ℕ → Content = λ kind payload. record { kind = kind; payload = payload } in
      IsPosted s (batch (frame k p ∷ []) None) before now result → IsPosted s (batch (frame l q ∷ []) None) before now result
  posted_as result k l p q before now same_kind same w =
      let frame : Kind → List ℕ → Content = λ kind payload. record { kind = kind; payload = payload } in
      subst (λ kind. IsPosted s (batch (frame kind q ∷ []) None) before now result) same_kind (subst (λ payload. IsPosted s (batch (frame k payload ∷ []) None) before now result) same w)

  pub none_posted : (before : Posted S) → PostsAll s (batch [] None) GoesOn before before
  none_posted before = record { acts = []; posted = sym (with_none before); posts = (refl, refl) }

  -- all frames are posted
  pub Halfway-done : (frames left : List Content) (before now : Posted S) → left ≡ [] → Halfway frames left before now → PostsAll s (batch frames None) GoesOn before now
  Halfway-done frames left before now none h = Halfway-last (Ok tt) None frames left before now now none h (none_posted now)

  -- where all are posted, some are
  pub all_is_some : (frames : List Content) (before now : Posted S) → PostsAll s (batch frames None) GoesOn before now → PostsSome s frames before now
  all_is_some frames before now w = record { done = frames; left = []; frames_are = sym (append-nil frames); acts = w.acts; posted = w.posted; posts = w.posts }

  -- part is posted, and then what is left
  pub Halfway-rest : (result : Result Unit ReadEnd) (fault : Option stream.Fault) (frames left : List Content) (before now after : Posted S) → Halfway frames left before now
      → IsPosted s (batch left fault) now after result → IsPosted s (batch frames fault) before after result
  Halfway-rest (Ok u) fault frames left before now after h w = all_posted fault frames left GoesOn before now after h w
  Halfway-rest (Err reader.Left) fault frames left before now after h w = all_posted fault frames left Leaves before now after h w
  Halfway-rest (Err (reader.Violation f)) fault frames left before now after h w = all_posted fault frames left (Breaks f) before now after h w
  Halfway-rest (Err reader.NoMemory) fault frames left before now after h w = some_posted frames left before now after h w
  Halfway-rest (Err reader.ActorGone) fault frames left before now after h w = some_posted frames left before now after h w
  Halfway-rest (Err reader.Ended) fault frames left before now after h w = absurd w
  Halfway-rest (Err reader.Device) fault frames left before now after h w = absurd w
  Halfway-rest (Err reader.TooManyTurns) fault frames left before now after h w = absurd w

  -- the posts of a message, by what it says
  pub says_more : (said : session.Said) (payload : List ℕ) → Says s payload said → is_farewell said ≡ false → Posts {S = S} s None (record { kind = kind.Message; payload = payload } ∷ []) (act.Said said ∷ []) GoesOn
  says_more said payload says stays = inl (record { said = said; says = says; stays = stays; first = record { more = []; acts_are = refl; next = (refl, refl) } })

  pub says_farewell : (said : session.Said) (payload : List ℕ) → Says s payload said → is_farewell said ≡ true → Posts {S = S} s None (record { kind = kind.Message; payload = payload } ∷ []) (act.Said said ∷ []) Leaves
  says_farewell said payload says leaves = inr (inl (record { said = said; says = says; leaves = leaves; acts_are = refl; course_is = refl }))

  pub says_nothing : (fault : Fault) (payload : List ℕ) → SaysNothing s payload fault → Posts {S = S} s None (record { kind = kind.Message; payload = payload } ∷ []) (act.Spoilt ∷ []) (Breaks fault)
  says_nothing fault payload nothing = inr (inr (record { fault = fault; nothing = nothing; acts_are = refl; course_is = refl }))

  -- what stands behind the last frame is at fault
  pub fault_posted : (given : Option stream.Fault) (broken : stream.Fault) (fault : Fault) (before now : Posted S) → given ≡ Some broken → fault ≡ stream_fault broken → now ≡ with_acts before (act.Spoilt ∷ [])
      → PostsAll s (batch [] given) (Breaks fault) before now
  fault_posted given broken fault before now e f posted = subst (λ g. PostsAll s (batch [] g) (Breaks fault) before now) (sym e) (record { acts = act.Spoilt ∷ []; posted = posted; posts = (refl, ap Breaks f) })

  -- where an act came back none of the frames is posted
  pub back_posted : (end : ReadEnd) (fault : Option stream.Fault) (frames : List Content) (before now : Posted S) → end ≡ reader.ActorGone → now ≡ before → IsPosted s (batch frames fault) before now (Err end)
  back_posted end fault frames before now is same =
      subst (λ x. IsPosted s (batch frames fault) before now (Err x)) (sym is)
      (record { done = []; left = frames; frames_are = refl; acts = []; posted = same ∙ sym (with_none before); posts = (refl, refl) })

  -- a PING is posted, or comes back
  pub ping_posted : (result : Result Unit ReadEnd) (payload : List ℕ) (before now : Posted S) → OnOk result (now ≡ with_acts before (act.Ping payload ∷ [])) → OnErr result (now ≡ before) → IfErr result (λ e. e ≡ reader.ActorGone)
      → IsPosted s (batch (record { kind = kind.Ping; payload = payload } ∷ []) None) before now result
  ping_posted (Ok u) payload before now posted back end = record { acts = act.Ping payload ∷ []; posted = posted; posts = record { more = []; acts_are = refl; next = (refl, refl) } }
  ping_posted (Err e) payload before now posted back end = back_posted e None (record { kind = kind.Ping; payload = payload } ∷ []) before now end back

  pub Halfway-of : (a b : List Content) (before now : Posted S) → PostsAll s (batch a None) GoesOn before now → Halfway (a ++ b) b before now
  Halfway-of a b before now w = record { done = a; frames_are = refl; acts = w.acts; posted = w.posted; posts = w.posts }

  longer_all : (fault : Option stream.Fault) (a b : List Content) (course : Course) (before now : Posted S) → course ≢ GoesOn → PostsAll s (batch a None) course before now → PostsAll s (batch (a ++ b) fault) course before now
  longer_all fault a b course before now ended w = record { acts = w.acts; posted = w.posted; posts = Posts-ended fault a b w.acts course ended w.posts }

  longer_some : (a b : List Content) (before now : Posted S) → PostsSome s a before now → PostsSome s (a ++ b) before now
  longer_some a b before now w = record { done = w.done; left = w.left ++ b; frames_are = ap (λ fs. fs ++ b) w.frames_are ∙ append_assoc w.done w.left b; acts = w.acts; posted = w.posted; posts = w.posts }

  -- what ended at the first frames ended
  pub longer_ends : (end : ReadEnd) (fault : Option stream.Fault) (a b : List Content) (before now : Posted S) → IsPosted s (batch a None) before now (Err end) → IsPosted s (batch (a ++ b) fault) before now (Err end)
  longer_ends reader.Left fault a b before now w = longer_all fault a b Leaves before now (λ (e : Leaves ≡ GoesOn). cc) w
  longer_ends (reader.Violation f) fault a b before now w = longer_all fault a b (Breaks f) before now (λ (e : Breaks f ≡ GoesOn). cc) w
  longer_ends reader.NoMemory fault a b before now w = longer_some a b before now w
  longer_ends reader.ActorGone fault a b before now w = longer_some a b before now w
  longer_ends reader.Ended fault a b before now w = absurd w
  longer_ends reader.Device fault a b before now w = absurd w
  longer_ends reader.TooManyTurns fault a b before now w = absurd w
