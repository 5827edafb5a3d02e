-- What a reader has posted of the octets that it read, when it ends.
use Rattle.std.specs.Prelude.{◌≡◌, ◌≢◌, ◌⊎◌, ◌≤◌, ℕ, List, [], ◌∷◌, ◌++◌, None, Result, Ok, Err, length}
use Rattle.std.specs.List.{flat_map, AllByRecursion}
use Rattle.std.specs.declared.option.Option.{Option}
use Rattle.rawsocket.specs.Deframer.{Deframing}
use Rattle.rawsocket.specs.Frames.{Content, IsTaken, Reads, fault_of, spelled}
use Rattle.rawsocket.specs.declared.fault.Fault as stream
use Rattle.rawsocket.specs.Steps.{Meter, Told, Fine, Failed, NoTurn, WholeSteps}
use Rattle.rawsocket.specs.declared.devices.no_octets.NoOctets.{NoOctets}
use Rattle.rawsocket.specs.declared.devices.no_octets.NoOctets.TheVariants as no_octets
use Rattle.rawsocket.specs.declared.handshake.Serializer.{Serializer}
use Rattle.realm_inbox.specs.Posted.{Posted, with_acts}
use Rattle.realm_inbox.specs.declared.act.Act.{Act}
use Rattle.realm_inbox.specs.declared.act.Act.TheVariants.{Gone}
use Rattle.connection.specs.Posts.{Course, GoesOn, Leaves, Breaks, Posts, EachCounts}
use Rattle.connection.specs.declared.reader.ReadEnd.{ReadEnd}
use Rattle.connection.specs.declared.reader.ReadEnd.TheVariants.{Left, Violation, Ended, Device, TooManyTurns, NoMemory, ActorGone}

-- what a reader begins with: how the client serializes, how many octets it may send in a payload, the frames that were read early, and what
-- the deframer holds behind them
pub record Start : Type 0 where
  pub serializer : Serializer
  pub most : ℕ
  pub early : List Content
  pub held : List ℕ

abbrev pub start : Serializer → List Content → Deframing → Start
start s early deframer = record { serializer = s; most = deframer.most; early = early; held = deframer.held }

-- frames, and what is at fault behind the last of them
pub record Batch : Type 0 where
  pub frames : List Content
  pub fault : Option stream.Fault

abbrev pub batch : List Content → Option stream.Fault → Batch
batch frames fault = record { frames = frames; fault = fault }

-- octets that the deframer takes, and what it holds then
pub record Taking : Type 0 where
  pub octets : List ℕ
  pub held : List ℕ

abbrev pub taking : List ℕ → List ℕ → Taking
taking octets held = record { octets = octets; held = held }

module _ {S : Type 0} where
  -- the posts of the early frames, and of those that the octets give behind what the deframer held
  pub record IsReadAll (begun : Start) (course : Course) (octets : List ℕ) (acts : List (Act S)) : Type 0 where
    pub frames : List Content
    pub new : List ℕ
    pub reads : Reads begun.most (begun.held ++ octets) frames new
    pub posts : Posts begun.serializer (fault_of begun.most new) (begun.early ++ frames) acts course

  -- the frames still went on after the first of the octets, and what was read behind these is no more than one read takes
  pub record EndsInLast (begun : Start) (octets : List ℕ) (acts : List (Act S)) : Type 0 where
    pub front : List ℕ
    pub back : List ℕ
    pub octets_are : octets ≡ front ++ back
    pub few : length back ≤ 65536
    pub before : List (Act S)
    pub more : List (Act S)
    pub acts_are : acts ≡ before ++ more
    pub went_on : IsReadAll begun GoesOn front before

  -- the posts of all, up to what ends them; it ends them in the octets that were read last, or before anything was read
  pub record IsReadToEnd (begun : Start) (course : Course) (octets : List ℕ) (acts : List (Act S)) : Type 0 where
    pub all : IsReadAll begun course octets acts
    pub last : (octets ≡ []) ⊎ EndsInLast begun octets acts

  -- the posts of the first frames that the first of the octets give
  pub record IsPart (begun : Start) (octets : List ℕ) (acts : List (Act S)) : Type 0 where
    pub front : List ℕ
    pub back : List ℕ
    pub octets_are : octets ≡ front ++ back
    pub frames : List Content
    pub new : List ℕ
    pub reads : Reads begun.most (begun.held ++ front) frames new
    pub done : List Content
    pub left : List Content
    pub frames_are : begun.early ++ frames ≡ done ++ left
    pub posts : Posts begun.serializer None done acts GoesOn

  -- none, or these
  abbrev pub IsReadPartly : Start → List ℕ → List (Act S) → Type 0
  IsReadPartly begun octets acts = (acts ≡ []) ⊎ IsPart begun octets acts

  -- and then that the client is gone
  pub record ThenGone (Before : List (Act S) → Type 0) (acts : List (Act S)) : Type 0 where
    pub front : List (Act S)
    pub acts_are : acts ≡ front ++ Gone ∷ []
    pub before : Before front

  -- by the reader's end
  abbrev pub IsReadBy : Start → ReadEnd → List ℕ → List (Act S) → Type 0
  IsReadBy begun Left octets acts = IsReadToEnd begun Leaves octets acts
  IsReadBy begun (Violation fault) octets acts = IsReadToEnd begun (Breaks fault) octets acts
  IsReadBy begun Ended octets acts = ThenGone (IsReadAll begun GoesOn octets) acts
  IsReadBy begun Device octets acts = ThenGone (IsReadAll begun GoesOn octets) acts
  IsReadBy begun TooManyTurns octets acts = ThenGone (IsReadAll begun GoesOn octets) acts
  IsReadBy begun NoMemory octets acts = ThenGone (IsReadPartly begun octets) acts
  IsReadBy begun ActorGone octets acts = IsReadPartly begun octets acts

  -- by the reader's end, before it posts that the client is gone
  abbrev pub IsReadUpTo : Start → ReadEnd → List ℕ → List (Act S) → Type 0
  IsReadUpTo begun Left octets acts = IsReadToEnd begun Leaves octets acts
  IsReadUpTo begun (Violation fault) octets acts = IsReadToEnd begun (Breaks fault) octets acts
  IsReadUpTo begun Ended octets acts = IsReadAll begun GoesOn octets acts
  IsReadUpTo begun Device octets acts = IsReadAll begun GoesOn octets acts
  IsReadUpTo begun TooManyTurns octets acts = IsReadAll begun GoesOn octets acts
  IsReadUpTo begun NoMemory octets acts = IsReadPartly begun octets acts
  IsReadUpTo begun ActorGone octets acts = IsReadPartly begun octets acts

  -- these octets were read, and these acts posted, since
  pub record ReadsSince (given_before given : List ℕ) (before now : Posted S) (Read : List ℕ → List (Act S) → Type 0) : Type 0 where
    pub octets : List ℕ
    pub acts : List (Act S)
    pub read : given ≡ given_before ++ octets
    pub posted : now ≡ with_acts before acts
    pub holds : Read octets acts

  -- acts were posted since, and each counted as so many octets
  pub record CountsSince (s : Serializer) (before now : Posted S) (weights_before weights : List ℕ) : Type 0 where
    pub acts : List (Act S)
    pub octets : List ℕ
    pub posted : now ≡ with_acts before acts
    pub weighed : weights ≡ weights_before ++ octets
    pub each : EachCounts s acts octets

  -- all of them were posted since
  pub record PostsAll (s : Serializer) (given : Batch) (course : Course) (before now : Posted S) : Type 0 where
    pub acts : List (Act S)
    pub posted : now ≡ with_acts before acts
    pub posts : Posts s given.fault given.frames acts course

  -- those of the first frames were
  pub record PostsSome (s : Serializer) (frames : List Content) (before now : Posted S) : Type 0 where
    pub done : List Content
    pub left : List Content
    pub frames_are : frames ≡ done ++ left
    pub acts : List (Act S)
    pub posted : now ≡ with_acts before acts
    pub posts : Posts s None done acts GoesOn

  -- by what ends it, if anything does
  abbrev pub IsPosted : Serializer → Batch → Posted S → Posted S → Result Unit ReadEnd → Type 0
  IsPosted s given before now (Ok _) = PostsAll s given GoesOn before now
  IsPosted s given before now (Err Left) = PostsAll s given Leaves before now
  IsPosted s given before now (Err (Violation broken)) = PostsAll s given (Breaks broken) before now
  IsPosted s given before now (Err NoMemory) = PostsSome s given.frames before now
  IsPosted s given before now (Err ActorGone) = PostsSome s given.frames before now
  IsPosted s given before now (Err _) = ⊥

  -- those of the frames at the front of octets were posted, by what ended it, if anything did
  pub record PostsFront (most : ℕ) (s : Serializer) (octets rest : List ℕ) (before now : Posted S) (result : Result Unit ReadEnd) : Type 0 where
    pub frames : List Content
    pub each : AllByRecursion (IsTaken most) frames
    pub whole : octets ≡ flat_map spelled frames ++ rest
    pub posted : IsPosted s (batch frames None) before now result

  -- octets give these frames behind what was held, and they are posted behind the early ones
  pub record Advances (begun : Start) (read : Taking) (before now : Posted S) (result : Result Unit ReadEnd) : Type 0 where
    pub frames : List Content
    pub reads : Reads begun.most (begun.held ++ read.octets) frames read.held
    pub posted : IsPosted begun.serializer (batch (begun.early ++ frames) (fault_of begun.most read.held)) before now result

  -- where something ended it, the deframer needn't hold what stands behind them
  abbrev pub IsAdvance : Start → Taking → Posted S → Posted S → Result Unit ReadEnd → Type 0
  IsAdvance begun read before now (Ok u) = Advances begun read before now (Ok u)
  IsAdvance begun read before now (Err end) = (held : List ℕ) × Advances begun (taking read.octets held) before now (Err end)

  -- that the client is gone is posted, or comes back
  abbrev pub GoesWith : ReadEnd → Posted S → Posted S → ReadEnd → Type 0
  GoesWith end before now result = ((result ≡ end) × (now ≡ with_acts before (Gone ∷ []))) ⊎ ((result ≡ ActorGone) × (now ≡ before))

  -- it is posted where nothing that the client sent ended it
  abbrev pub Departs : ReadEnd → Posted S → Posted S → ReadEnd → Type 0
  Departs Left before now result = (result ≡ Left) × (now ≡ before)
  Departs (Violation fault) before now result = (result ≡ Violation fault) × (now ≡ before)
  Departs ActorGone before now result = (result ≡ ActorGone) × (now ≡ before)
  Departs end before now result = GoesWith end before now result

-- the end that the stream makes
abbrev pub end_of : NoOctets → ReadEnd
end_of no_octets.Ended = Ended
end_of no_octets.Failed = Device
end_of no_octets.TooManyTurns = TooManyTurns

-- how many acts came back, by the end: one where nobody receives any more, else none
abbrev pub came_back : ReadEnd → ℕ
came_back ActorGone = 1
came_back _ = 0

-- where nothing ended it none did
abbrev pub came_back_with : {A : Type 0} → Result A ReadEnd → ℕ
came_back_with (Ok _) = 0
came_back_with (Err end) = came_back end

-- what an end tells of the stream
abbrev pub read_told : ReadEnd → Told
read_told Device = Failed
read_told TooManyTurns = NoTurn
read_told _ = Fine

-- what was read up to this end; where nobody receives any more, that may be all that it tells
pub record ReadsUntil (before after : ℕ → Meter) (end : ReadEnd) : Type 0 where
  pub told : Told
  pub is_told : end ≢ ActorGone → told ≡ read_told end
  pub steps : WholeSteps before after told
