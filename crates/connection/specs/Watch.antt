-- What a writer tells who watches it, of the items that it took.
use Rattle.std.specs.Prelude.{◌≡◌, List, [], ◌∷◌, ◌++◌, map, Option, Some, None, ◌⊎◌}
use Rattle.std.specs.List.{flat_map}
use Rattle.ghost_state.specs.GhostList.{items_of}
use Rattle.session.specs.declared.fault.Fault.{Fault}
use Rattle.session.specs.declared.fault.Fault.TheVariants as fault
use Rattle.wamp_messages.specs.declared.item.Item.{Item}
use Rattle.connection.specs.declared.told.Mark.{Mark}
use Rattle.connection.specs.declared.told.Mark.TheVariants as mark
use Rattle.connection.specs.declared.told.Told.{Told}
use Rattle.connection.specs.declared.writer.WriteEnd.{WriteEnd}
use Rattle.connection.specs.declared.writer.WriteEnd.TheVariants as end

-- one thing that is told of an item: that it was taken, that it is written, or that it is given up by a fault
pub data Notice : Type 0 where
  Taken : (item : Item) → Notice
  Written : (item : Item) → Notice
  GivenUp : (item : Item) (fault : Fault) → Notice

-- what is told of items that are written: of each that it was taken, and then that it is written, one item after another
abbrev pub notices_of : List Item → List Notice
notices_of items = flat_map (λ item. Taken item ∷ Written item ∷ []) items

-- just that is told of the items
abbrev pub AreTold : List Item → List Notice → Type 0
AreTold items notices = notices ≡ notices_of items

-- that an item is given up, if it is told
abbrev pub given_up : Item → Option Fault → List Notice
given_up item None = []
given_up item (Some fault) = GivenUp item fault ∷ []

-- the same of all but the last one; of that one that it was taken, and that it is given up, if it is
pub record AreToldButLast (fault : Option Fault) (items : List Item) (notices : List Notice) : Type 0 where
  pub written : List Item
  pub last : Item
  pub items_are : items ≡ written ++ last ∷ []
  pub notices_are : notices ≡ notices_of written ++ Taken last ∷ given_up last fault

-- all are told, or all but the last one
abbrev pub AreToldSoFar : List Item → List Notice → Type 0
AreToldSoFar items notices = AreTold items notices ⊎ ((fault : Option Fault) × AreToldButLast fault items notices)

-- by the writer's end
abbrev pub AreToldBy : WriteEnd → List Item → List Notice → Type 0
AreToldBy end.Stopped items notices = AreTold items notices
AreToldBy end.Full items notices = AreTold items notices
AreToldBy end.Lost items notices = AreTold items notices
AreToldBy end.Dropped items notices = AreTold items notices
AreToldBy end.TooLong items notices = AreToldButLast (Some fault.TooLongForClient) items notices
AreToldBy end.NoMemory items notices = AreToldButLast (Some fault.NoMemory) items notices
AreToldBy end.Device items notices = AreToldSoFar items notices
AreToldBy end.TooManyTurns items notices = AreToldSoFar items notices

-- these items were taken, and these notices given, since
pub record TellsSince (taken_before taken : List Item) (before now : List Notice) (AreGiven : List Item → List Notice → Type 0) : Type 0 where
  pub items : List Item
  pub notices : List Notice
  pub took : taken ≡ taken_before ++ items
  pub told : now ≡ before ++ notices
  pub given : AreGiven items notices

abbrev pub notice_of : Mark → Notice
notice_of (mark.Taken item) = Taken item.value
notice_of (mark.Written item) = Written item.value
notice_of (mark.GivenUp item fault) = GivenUp item.value fault

-- what was told so far, the oldest first
abbrev pub told_to : Told → List Notice
told_to told = map notice_of (items_of told.marks)
