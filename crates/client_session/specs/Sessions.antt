-- A session that a broker welcomed, and the subscriptions that it was given.
use Rattle.std.specs.Prelude.{◌≡◌, ⊤, ◌⊎◌, ℕ, Bool, true, false, List, [], ◌∷◌, ◌++◌, Contains, None, Some, Result, Ok, Err}
use Rattle.std.specs.declared.option.Option.{Option}
use Rattle.rawsocket.specs.Frames.{Content}
use Rattle.rawsocket.specs.Steps.{Told, Fine}
use Rattle.client_messages.specs.declared.heard.Heard.{Heard}
use Rattle.client_messages.specs.declared.heard.Heard.TheVariants.{Welcome, Abort, Subscribed, Event}
use Rattle.client_session.specs.Faults.{read_told, write_told}
use Rattle.client_session.specs.Hearing.{Ear, HearsNext, HearsNone, Line, Terms, ear}
use Rattle.client_session.specs.declared.fault.Fault.{Fault}
use Rattle.client_session.specs.declared.fault.Fault.TheVariants.{NoMemory}
use Rattle.client_session.specs.declared.welcomed.NoSession.{NoSession}
use Rattle.client_session.specs.declared.welcomed.NoSession.TheVariants as no_session
use Rattle.client_session.specs.declared.welcomed.Unheard.{Unheard}
use Rattle.client_session.specs.declared.welcomed.Unheard.TheVariants as unheard

pub record Welcomed : Type 0 where
  pub line : Line
  pub id : ℕ
  pub subscriptions : List ℕ

-- the subscriptions that a session was given, when it has heard this
abbrev pub given_after : List ℕ → Heard → List ℕ
given_after subscriptions (Subscribed request n) = subscriptions ++ n ∷ []
given_after subscriptions _ = subscriptions

-- an event is of a subscription that the session was given
abbrev pub IsOwn : List ℕ → Heard → Type 0
IsOwn subscriptions (Event n publication details args) = Contains subscriptions n
IsOwn subscriptions _ = ⊤

-- an event is of one that it wasn't
abbrev pub IsForeignEvent : List ℕ → Heard → Type 0
IsForeignEvent subscriptions (Event n publication details args) = Contains subscriptions n → ⊥
IsForeignEvent subscriptions _ = ⊥

-- what is made of what was heard
abbrev pub IsJudged : List ℕ → List ℕ → Heard → Result Heard Unheard → Type 0
IsJudged before now heard (Ok told) = (told ≡ heard) × IsOwn before heard × (now ≡ given_after before heard)
IsJudged before now heard (Err unheard.ForeignEvent) = IsForeignEvent before heard × (now ≡ before)
IsJudged before now heard (Err (unheard.Failed fault)) = (fault ≡ NoMemory) × (now ≡ before)

-- a message was heard that the session can't be told
pub record HearsForeign (t : Terms) (before now : Ear) (subscriptions : List ℕ) : Type 0 where
  pub heard : Heard
  pub next : HearsNext t before now (Ok heard)
  pub foreign : IsForeignEvent subscriptions heard

-- or it is lost for want of memory
pub record HearsLost (t : Terms) (before now : Ear) (fault : Fault) : Type 0 where
  pub heard : Heard
  pub next : HearsNext t before now (Ok heard)
  pub memory : fault ≡ NoMemory

-- what a session hears next
abbrev pub HearsInSession : Terms → Ear → Ear → List ℕ → List ℕ → Result Heard Unheard → Type 0
HearsInSession t before now given given_now (Ok heard) = HearsNext t before now (Ok heard) × IsOwn given heard × (given_now ≡ given_after given heard)
HearsInSession t before now given given_now (Err unheard.ForeignEvent) = HearsForeign t before now given × (given_now ≡ given)
HearsInSession t before now given given_now (Err (unheard.Failed fault)) =
    (HearsNext t before now (Err fault) ⊎ HearsLost t before now fault) × (given_now ≡ given)

-- what a session hears by one look at the stream
abbrev pub ListensInSession : Terms → Ear → Ear → List ℕ → List ℕ → Result (Option Heard) Unheard → Type 0
ListensInSession t before now given given_now (Ok (Some heard)) = HearsInSession t before now given given_now (Ok heard)
ListensInSession t before now given given_now (Ok None) = HearsNone t before now × (given_now ≡ given)
ListensInSession t before now given given_now (Err unheard) = HearsInSession t before now given given_now (Err unheard)

-- what answers HELLO
abbrev pub is_answer : Heard → Bool
is_answer (Welcome id) = true
is_answer (Abort reason) = true
is_answer _ = false

-- what is made of what answers HELLO
abbrev pub IsGreeting : Heard → Result ℕ NoSession → Type 0
IsGreeting heard (Ok id) = heard ≡ Welcome id
IsGreeting heard (Err (no_session.Aborted reason)) = heard ≡ Abort reason
IsGreeting heard (Err no_session.Unexpected) = is_answer heard ≡ false
IsGreeting heard (Err (no_session.Failed fault)) = ⊥

-- this was heard, and the link was let go
pub record HearsLast (t : Terms) (before : Ear) (given taken : List ℕ) (result : Result Heard Fault) : Type 0 where
  pub waiting : List Content
  pub held : List ℕ
  pub next : HearsNext t before (ear waiting held given taken) result

-- something else was heard
pub record HearsOther (t : Terms) (before : Ear) (given taken : List ℕ) : Type 0 where
  pub heard : Heard
  pub other : is_answer heard ≡ false
  pub last : HearsLast t before given taken (Ok heard)

-- why no session is open
abbrev pub IsUnwelcome : Terms → Ear → List ℕ → List ℕ → NoSession → Type 0
IsUnwelcome t before given taken (no_session.Aborted reason) = HearsLast t before given taken (Ok (Abort reason))
IsUnwelcome t before given taken no_session.Unexpected = HearsOther t before given taken
IsUnwelcome t before given taken (no_session.Failed fault) = HearsLast t before given taken (Err fault)

abbrev pub opening_read_told : NoSession → Told
opening_read_told (no_session.Failed fault) = read_told fault
opening_read_told _ = Fine

abbrev pub opening_write_told : NoSession → Told
opening_write_told (no_session.Failed fault) = write_told fault
opening_write_told _ = Fine

abbrev pub session_read_told : Unheard → Told
session_read_told (unheard.Failed fault) = read_told fault
session_read_told _ = Fine

abbrev pub session_write_told : Unheard → Told
session_write_told (unheard.Failed fault) = write_told fault
session_write_told _ = Fine
