-- What is heard one message after another.
use Rattle.std.specs.Prelude.{◌≡◌, ◌≤◌, ⊤, ℕ, List, [], ◌∷◌, ◌++◌, length}
use Rattle.std.specs.List.{flat_map, AllByRecursion}
use Rattle.rawsocket.specs.Frames.{Content, Reads}
use Rattle.rawsocket.specs.declared.frame.Kind.{Kind}
use Rattle.rawsocket.specs.declared.frame.Kind.TheVariants as kind
use Rattle.rawsocket.specs.declared.handshake.Serializer.{Serializer}
use Rattle.session.specs.Opened.{ByKind}
use Rattle.client_messages.specs.declared.heard.Heard.{Heard}
use Rattle.client_session.specs.Hearing.{client_takes, Ear, Says, Terms, answers_to}

-- the payload of a message
abbrev pub payload_by : Kind → List ℕ → List (List ℕ)
payload_by kind.Message payload = payload ∷ []
payload_by _ payload = []

abbrev pub payload_in : Content → List (List ℕ)
payload_in c = payload_by c.kind c.payload

-- the payloads of the messages among frames
abbrev pub messages : List Content → List (List ℕ)
messages frames = flat_map payload_in frames

-- each payload says one of these, in their order
abbrev pub SayAll : Serializer → List (List ℕ) → List Heard → Type 0
SayAll s [] [] = ⊤
SayAll s [] (heard ∷ more) = ⊥
SayAll s (payload ∷ payloads) [] = ⊥
SayAll s (payload ∷ payloads) (heard ∷ more) = Says s payload heard × SayAll s payloads more

-- a PING that the broker takes back, or no PING
abbrev pub IsAnswerable : ℕ → Content → Type 0
IsAnswerable limit c = ByKind c.kind ⊤ (length c.payload ≤ limit) ⊤

-- of all frames that the octets gave that were read since, those that are done say this, and each PING among them is answered
pub record HearsAll (t : Terms) (before now : Ear) (heards : List Heard) : Type 0 where
  pub octets : List ℕ
  pub read : now.given ≡ before.given ++ octets
  pub frames : List Content
  pub reads : Reads client_takes (before.held ++ octets) frames now.held
  pub done : List Content
  pub frames_are : before.waiting ++ frames ≡ done ++ now.waiting
  pub each : AllByRecursion (IsAnswerable t.limit) done
  pub say : SayAll t.serializer (messages done) heards
  pub wrote : now.taken ≡ before.taken ++ answers_to done
