-- What stands before the arguments of an EVENT.
use Rattle.std.specs.Prelude.{ℕ, List, ◌++◌}
use Rattle.message_tree.specs.Data.{Data, dict, no_entries}
use Rattle.rawsocket.specs.declared.handshake.Serializer.{Serializer}
use Rattle.session.specs.body.SerializedParts.{list_opening, separator}
use Rattle.session.specs.Serializer.{serialized}
use Rattle.session.specs.ToClient.{number}

-- its type, the numbers of the subscription and the publication, and its details, of so many elements
abbrev pub event_beginning : Serializer → ℕ → ℕ → ℕ → Data → List ℕ
event_beginning s count subscription publication details =
    list_opening s count
    ++ (serialized s (number 36) ++ (separator s ++ (serialized s (number subscription) ++ (separator s ++ (serialized s (number publication) ++ (separator s ++ serialized s details))))))

-- the same with no details
abbrev pub event_front : Serializer → ℕ → ℕ → ℕ → List ℕ
event_front s count subscription publication = event_beginning s count subscription publication (dict no_entries)
