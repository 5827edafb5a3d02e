-- What a writer has written of the items that it took, when it ends.
use Rattle.std.specs.Prelude.{◌≡◌, ◌≤◌, ◌+◌, ℕ, List, [], ◌∷◌, ◌++◌, length}
use mathlib.Core.List.{IsPrefix}
use Rattle.std.specs.List.{flat_map, AllByRecursion}
use Rattle.rawsocket.specs.Steps.{Told, Fine, Failed, NoTurn}
use Rattle.rawsocket.specs.declared.handshake.Serializer.{Serializer}
use Rattle.wamp_messages.specs.declared.item.Item.{Item}
use Rattle.session.specs.ToClient.{message_of}
use Rattle.outbox_queue.specs.Ends.{Taking}
use Rattle.outbox_queue.specs.Rule.{Grows}
use Rattle.session.specs.ItemFrames.{octets_of, Fits, IsSpelled, IsTooLong}
use Rattle.connection.specs.declared.writer.WriteEnd.{WriteEnd}
use Rattle.connection.specs.declared.writer.WriteEnd.TheVariants.{Stopped, Full, Lost, Dropped, Device, TooLong, NoMemory, TooManyTurns}

-- the item can be written to a client that takes so many octets in one payload
abbrev pub IsWritable : Serializer → ℕ → Item → Type 0
IsWritable s limit item = Fits s limit item × IsSpelled s (message_of item)

-- the frames of items, in their order
abbrev pub frames_of : Serializer → List Item → List ℕ
frames_of s items = flat_map (octets_of s) items

-- all of the items are written
abbrev pub IsWhole : Serializer → ℕ → List Item → List ℕ → Type 0
IsWhole s limit items octets = AllByRecursion (IsWritable s limit) items × (octets ≡ frames_of s items)

-- all but the last of the items are written, and of the last one these octets
pub record LacksLast (s : Serializer) (limit : ℕ) (Ends : Item → List ℕ → Type 0) (items : List Item) (octets : List ℕ) : Type 0 where
  pub written : List Item
  pub last : Item
  pub part : List ℕ
  pub items_are : items ≡ written ++ last ∷ []
  pub writable : AllByRecursion (IsWritable s limit) written
  pub octets_are : octets ≡ frames_of s written ++ part
  pub ends : Ends last part

-- none of its octets is written, as the client can't take it
abbrev pub IsRefused : Serializer → ℕ → Item → List ℕ → Type 0
IsRefused s limit item part = (part ≡ []) × IsTooLong s limit item

-- none of its octets is written
abbrev pub IsMissing : Item → List ℕ → Type 0
IsMissing item part = part ≡ []

-- of the items all but perhaps the last one can be written, and of their frames, behind what was held back before them, a beginning is
-- written: what is held back are less than 65,536 octets, and one frame
pub record IsBegun (s : Serializer) (limit : ℕ) (held_before : List ℕ) (items : List Item) (octets : List ℕ) : Type 0 where
  pub made : List Item
  pub unmade : List Item
  pub items_are : items ≡ made ++ unmade
  pub few : length unmade ≤ 1
  pub writable : AllByRecursion (IsWritable s limit) made
  pub begun : IsPrefix octets (held_before ++ frames_of s made)
  pub held : length (held_before ++ frames_of s made) ≤ length octets + (65539 + limit)

-- by the writer's end
abbrev pub IsWrittenBy : Serializer → ℕ → WriteEnd → List Item → List ℕ → Type 0
IsWrittenBy s limit Stopped items octets = IsWhole s limit items octets
IsWrittenBy s limit Full items octets = IsWhole s limit items octets
IsWrittenBy s limit Lost items octets = IsWhole s limit items octets
IsWrittenBy s limit Dropped items octets = IsWhole s limit items octets
IsWrittenBy s limit TooLong items octets = LacksLast s limit (IsRefused s limit) items octets
IsWrittenBy s limit NoMemory items octets = LacksLast s limit IsMissing items octets
IsWrittenBy s limit Device items octets = IsBegun s limit [] items octets
IsWrittenBy s limit TooManyTurns items octets = IsBegun s limit [] items octets

-- these items were taken, and these octets written, since
pub record WritesSince (taken_before taken : List Item) (before now : List ℕ) (Written : List Item → List ℕ → Type 0) : Type 0 where
  pub items : List Item
  pub octets : List ℕ
  pub took : taken ≡ taken_before ++ items
  pub wrote : now ≡ before ++ octets
  pub written : Written items octets

-- the same taking end, further on
pub record IsLater {T H : Type 0} (begins : H → H → Type 0) (before now : Taking T H) : Type 0 where
  pub queue : now.queue ≡ before.queue
  pub capacity : now.capacity ≡ before.capacity
  pub conn : now.conn ≡ before.conn
  pub chronicle : now.chronicle ≡ before.chronicle
  pub seen : Grows begins before.seen now.seen
  pub finds : before.empty_finds ≤ now.empty_finds

-- what an end tells of the stream
abbrev pub write_told : WriteEnd → Told
write_told Device = Failed
write_told TooManyTurns = NoTurn
write_told _ = Fine
