-- What a writer holds back between its steps, and how a step ends.
use Rattle.std.specs.Prelude.{◌≡◌, ◌<◌, ℕ, List, [], ◌∷◌, ◌++◌, length}
use Rattle.std.specs.List.{AllByRecursion}
use Rattle.rawsocket.specs.Devices.{GrowsByBeginning}
use Rattle.session.specs.declared.fault.Fault.{Fault}
use Rattle.session.specs.declared.fault.Fault.TheVariants as fault
use Rattle.wamp_messages.specs.declared.item.Item.{Item}
use Rattle.session.specs.ItemFrames.{octets_of}
use Rattle.connection.specs.Writer.{IsWritable, IsRefused, IsMissing, IsBegun, frames_of}
use Rattle.connection.specs.declared.writer.ClientTerms.{ClientTerms}
use Rattle.connection.specs.declared.writer.WriteEnd.{WriteEnd}
use Rattle.connection.specs.declared.writer.WriteEnd.TheVariants.{Stopped, Full, Lost, Dropped, Device, TooLong, NoMemory, TooManyTurns}

-- what a writer has written, and what it holds back behind that
pub record Output : Type 0 where
  pub written : List ℕ
  pub held : List ℕ

abbrev pub output : List ℕ → List ℕ → Output
output written held = record { written = written; held = held }

-- all of the items can be written, and their frames, behind what was held back before them, are written but for what is held back now
pub record Passes (client : ClientTerms) (held_before held : List ℕ) (items : List Item) (octets : List ℕ) : Type 0 where
  pub writable : AllByRecursion (IsWritable client.serializer client.limit) items
  pub octets_are : octets ++ held ≡ held_before ++ frames_of client.serializer items

-- of what was held back some is written, and the rest is held back
pub record HandsOver (before now : Output) : Type 0 where
  pub octets : List ℕ
  pub wrote : now.written ≡ before.written ++ octets
  pub octets_are : octets ++ now.held ≡ before.held

-- the frame of the item, behind what was held back, is written but for what is held back now, which isn't long
pub record AddsFrame (client : ClientTerms) (item : Item) (before now : Output) : Type 0 where
  pub octets : List ℕ
  pub wrote : now.written ≡ before.written ++ octets
  pub octets_are : octets ++ now.held ≡ before.held ++ octets_of client.serializer item
  pub writable : IsWritable client.serializer client.limit item
  pub few : length now.held < 65536

-- the ends that the device brings
abbrev pub IsOfDevice : WriteEnd → Type 0
IsOfDevice Device = Unit {0}
IsOfDevice TooManyTurns = Unit {0}
IsOfDevice _ = ⊥

-- what was held back is written, or a beginning of it, by an end that comes while no item is in hand
abbrev pub EndsBetween : WriteEnd → Output → List ℕ → Type 0
EndsBetween Stopped before now = now ≡ before.written ++ before.held
EndsBetween Full before now = now ≡ before.written ++ before.held
EndsBetween Lost before now = now ≡ before.written ++ before.held
EndsBetween Dropped before now = now ≡ before.written ++ before.held
EndsBetween Device before now = GrowsByBeginning before.written now before.held
EndsBetween TooManyTurns before now = GrowsByBeginning before.written now before.held
EndsBetween _ before now = ⊥

-- the same by an end that comes for a fault of encoding
abbrev pub EndsWith : Fault → WriteEnd → Output → List ℕ → Type 0
EndsWith f TooLong before now = (f ≡ fault.TooLongForClient) × (now ≡ before.written ++ before.held)
EndsWith f NoMemory before now = (f ≡ fault.NoMemory) × (now ≡ before.written ++ before.held)
EndsWith f Device before now = GrowsByBeginning before.written now before.held
EndsWith f TooManyTurns before now = GrowsByBeginning before.written now before.held
EndsWith f Stopped before now = ⊥
EndsWith f Full before now = ⊥
EndsWith f Lost before now = ⊥
EndsWith f Dropped before now = ⊥

-- the only one of the items has this fault, and all that was held back is written
pub record StopsAt (Ends : Item → List ℕ → Type 0) (held_before : List ℕ) (items : List Item) (octets : List ℕ) : Type 0 where
  pub item : Item
  pub items_are : items ≡ item ∷ []
  pub octets_are : octets ≡ held_before
  pub ends : Ends item []

-- what is written of what was held back, and of the item that was taken, by the end that comes then
abbrev pub EndsFrom : ClientTerms → WriteEnd → List ℕ → List Item → List ℕ → Type 0
EndsFrom client Stopped held items octets = (items ≡ []) × (octets ≡ held)
EndsFrom client Full held items octets = (items ≡ []) × (octets ≡ held)
EndsFrom client Lost held items octets = (items ≡ []) × (octets ≡ held)
EndsFrom client Dropped held items octets = (items ≡ []) × (octets ≡ held)
EndsFrom client TooLong held items octets = StopsAt (IsRefused client.serializer client.limit) held items octets
EndsFrom client NoMemory held items octets = StopsAt IsMissing held items octets
EndsFrom client Device held items octets = IsBegun client.serializer client.limit held items octets
EndsFrom client TooManyTurns held items octets = IsBegun client.serializer client.limit held items octets

-- these octets were written since, and an end came at the item
pub record BreaksAt (client : ClientTerms) (end : WriteEnd) (item : Item) (before : Output) (now : List ℕ) : Type 0 where
  pub octets : List ℕ
  pub wrote : now ≡ before.written ++ octets
  pub ends : EndsFrom client end before.held (item ∷ []) octets
