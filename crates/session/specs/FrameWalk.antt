-- What a walk over the frames of a client adds to the output.
use Rattle.std.specs.Prelude.{◌≡◌, ◌<◌, ◌⊎◌, ℕ, List, ◌++◌, length, Result, option_map, string_bytes}
use Rattle.std.specs.declared.option.Option.{Option}
use Rattle.rawsocket.specs.Devices.{GrowsByBeginning}
use Rattle.rawsocket.specs.Frames.{Content, contents, fault_of, Reads}
use Rattle.rawsocket.specs.declared.fault.Fault as stream
use Rattle.session.specs.Opened.{Converses, Exchange, Leads, Session, Terms, Verdict, Undecided, Opens, Refuses}
use Rattle.session.specs.declared.fault.Fault.{Fault}
use Rattle.session.specs.declared.fault.Fault.TheVariants.{Ended, ReadFault}
use Rattle.session.specs.declared.opening.verdict.Verdict as declared
use Rattle.session.specs.declared.opening.verdict.Verdict.TheVariants as seen

-- a verdict without where it lies in memory
abbrev pub verdict_of : declared.Verdict → Verdict
verdict_of seen.Undecided = Undecided
verdict_of (seen.Opens first early) = Opens first.realm (option_map string_bytes first.authid) (contents early.items)
verdict_of (seen.Refuses fault) = Refuses fault

-- what is to be written where this is decided stands at the end
pub record Adds (Decides : List ℕ → Verdict → Type 0) (before after : List ℕ) (v : Verdict) : Type 0 where
  pub out : List ℕ
  pub is : after ≡ before ++ out
  pub leads : Decides out v

-- the frames decide so, whatever comes after them
abbrev pub AddsFor : Terms → List Content → List ℕ → List ℕ → Verdict → Type 0
AddsFor t frames before after v = (fault : Option stream.Fault) → Adds (Leads t fault frames) before after v

-- the later list begins with the earlier one
abbrev pub Extends : List ℕ → List ℕ → Type 0
Extends before after = (more : List ℕ) × (after ≡ before ++ more)

-- a stream ended, or failed, when less than this had come
pub record EndsWithin (most : ℕ) (given_before given : List ℕ) (fault : Fault) : Type 0 where
  pub part : List ℕ
  pub read : given ≡ given_before ++ part
  pub short : length part < most
  pub is_end : (fault ≡ Ended) ⊎ (fault ≡ ReadFault)

-- what is held of the octets behind the last frame, and what was written to the client
pub record Stand : Type 0 where
  pub held : List ℕ
  pub taken : List ℕ

abbrev pub stand : List ℕ → List ℕ → Stand
stand held taken = record { held = held; taken = taken }

-- the next octets complete frames that decide so, where a payload may have so many at most, and what is written for them is written
pub record GoesOn (most : ℕ) (t : Terms) (piece : List ℕ) (before now : Stand) (v : Verdict) : Type 0 where
  pub frames : List Content
  pub reads : Reads most (before.held ++ piece) frames now.held
  pub out : List ℕ
  pub wrote : now.taken ≡ before.taken ++ out
  pub leads : Leads t (fault_of most now.held) frames out v

-- of what is written for the frames that the next octets complete a beginning is written
pub record GoesOnPartly (most : ℕ) (t : Terms) (piece : List ℕ) (before : Stand) (taken : List ℕ) : Type 0 where
  pub new : List ℕ
  pub frames : List Content
  pub reads : Reads most (before.held ++ piece) frames new
  pub verdict : Verdict
  pub out : List ℕ
  pub wrote : GrowsByBeginning before.taken taken out
  pub leads : Leads t (fault_of most new) frames out verdict

-- the octets after a handshake, of what was read and written since
pub record ConversesSince (most : ℕ) (t : Terms) (before now : Exchange) (answer : Result Session Fault) : Type 0 where
  pub octets : List ℕ
  pub written : List ℕ
  pub read : now.given ≡ before.given ++ octets
  pub wrote : now.taken ≡ before.taken ++ written
  pub converses : Converses most t octets written answer

-- of what is written for the octets after a handshake, or for the first of them, a beginning is written
pub record BeginsConversing (most : ℕ) (t : Terms) (before now : Exchange) : Type 0 where
  pub octets : List ℕ
  pub more : List ℕ
  pub written : List ℕ
  pub answer : Result Session Fault
  pub read : now.given ≡ before.given ++ (octets ++ more)
  pub wrote : GrowsByBeginning before.taken now.taken written
  pub converses : Converses most t octets written answer
