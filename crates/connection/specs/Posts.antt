-- What the frames of a client are posted as.
use Rattle.std.specs.Prelude.{◌≡◌, ◌⊎◌, ◌≤◌, ℕ, Bool, true, false, List, [], ◌∷◌, length, None, Some}
use Rattle.std.specs.declared.option.Option.{Option}
use Rattle.rawsocket.specs.Frames.{Content}
use Rattle.rawsocket.specs.declared.fault.Fault as stream
use Rattle.rawsocket.specs.declared.handshake.Serializer.{Serializer}
use Rattle.realm_inbox.specs.declared.act.Act.{Act}
use Rattle.realm_inbox.specs.declared.act.Act.TheVariants.{Said, Ping, Spoilt}
use Rattle.session.specs.Faults.{stream_fault}
use Rattle.session.specs.Opened.{ByKind}
use Rattle.session.specs.declared.fault.Fault.{Fault}
use Rattle.wamp_messages.specs.declared.said.Said as session
use Rattle.wamp_messages.specs.declared.said.Said.TheVariants.{Abort, Goodbye}
-- what a payload says
pub use Rattle.session.specs.Says.{Says, HasNoShape, SaysNothing}

-- after it a client says no more
abbrev pub is_farewell : session.Said → Bool
is_farewell Abort = true
is_farewell Goodbye = true
is_farewell _ = false

-- how a client's frames go: on, or to an end by a farewell, or by what breaks the protocol
pub data Course : Type 0 where
  GoesOn : Course
  Leaves : Course
  Breaks : Fault → Course

module _ {S : Type 0} where
  -- this act, and then those of the next frames
  pub record First (act : Act S) (Next : List (Act S) → Course → Type 0) (acts : List (Act S)) (course : Course) : Type 0 where
    pub more : List (Act S)
    pub acts_are : acts ≡ act ∷ more
    pub next : Next more course

  -- a message that is no farewell is posted, and the next frames count
  pub record SaysMore (s : Serializer) (payload : List ℕ) (Next : List (Act S) → Course → Type 0) (acts : List (Act S)) (course : Course) : Type 0 where
    pub said : session.Said
    pub says : Says s payload said
    pub stays : is_farewell said ≡ false
    pub first : First (Said said) Next acts course

  -- a farewell is posted last
  pub record SaysFarewell (s : Serializer) (payload : List ℕ) (acts : List (Act S)) (course : Course) : Type 0 where
    pub said : session.Said
    pub says : Says s payload said
    pub leaves : is_farewell said ≡ true
    pub acts_are : acts ≡ Said said ∷ []
    pub course_is : course ≡ Leaves

  -- what says nothing is posted last, as Spoilt
  pub record Spoils (s : Serializer) (payload : List ℕ) (acts : List (Act S)) (course : Course) : Type 0 where
    pub fault : Fault
    pub nothing : SaysNothing s payload fault
    pub acts_are : acts ≡ Spoilt ∷ []
    pub course_is : course ≡ Breaks fault

  -- what stands behind the last frame may be at fault: then it is posted last, as Spoilt
  abbrev pub PostsLast : Option stream.Fault → List (Act S) → Course → Type 0
  PostsLast None acts course = (acts ≡ []) × (course ≡ GoesOn)
  PostsLast (Some fault) acts course = (acts ≡ Spoilt ∷ []) × (course ≡ Breaks (stream_fault fault))

  -- the posts of frames, and of what stands behind them: a PING is posted, a PONG is not
  abbrev pub Posts : Serializer → Option stream.Fault → List Content → List (Act S) → Course → Type 0
  Posts s fault [] acts course = PostsLast fault acts course
  Posts s fault (c ∷ frames) acts course =
      ByKind c.kind
      (SaysMore s c.payload (Posts s fault frames) acts course ⊎ (SaysFarewell s c.payload acts course ⊎ Spoils s c.payload acts course))
      (First (Ping c.payload) (Posts s fault frames) acts course)
      (Posts s fault frames acts course)

  -- an act counts as so many octets: a message as no fewer than a payload has that says it, and a PING as no fewer than its payload has. What
  -- tells that the client is gone, or broke the protocol, may count as none
  abbrev pub CountsAs : Serializer → Act S → ℕ → Type 0
  CountsAs s (Said said) octets = (payload : List ℕ) × Says s payload said × (length payload ≤ octets)
  CountsAs s (Ping payload) octets = length payload ≤ octets
  CountsAs s act octets = Unit {0}

  -- each of the acts does, one after the other
  abbrev pub EachCounts : Serializer → List (Act S) → List ℕ → Type 0
  EachCounts s [] [] = Unit {0}
  EachCounts s (act ∷ acts) (octets ∷ weights) = CountsAs s act octets × EachCounts s acts weights
  EachCounts s [] (octets ∷ weights) = ⊥
  EachCounts s (act ∷ acts) [] = ⊥
