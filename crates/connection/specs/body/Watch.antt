-- What is told where a step ends at an item.
use Rattle.std.specs.Prelude.{◌≡◌, List, ◌++◌, Option, Some}
use Rattle.session.specs.declared.fault.Fault.{Fault}
use Rattle.session.specs.declared.fault.Fault.TheVariants as fault
use Rattle.wamp_messages.specs.declared.item.Item.{Item}
use Rattle.connection.specs.Watch.{Notice, given_up}
use Rattle.connection.specs.declared.writer.WriteEnd.{WriteEnd}
use Rattle.connection.specs.declared.writer.WriteEnd.TheVariants.{Stopped, Full, Lost, Dropped, Device, TooLong, NoMemory, TooManyTurns}

-- by which fault an item is given up, if it is, by the end that comes of it
abbrev pub IsWhy : WriteEnd → Option Fault → Type 0
IsWhy TooLong why = why ≡ Some fault.TooLongForClient
IsWhy NoMemory why = why ≡ Some fault.NoMemory
IsWhy Device why = Unit {0}
IsWhy TooManyTurns why = Unit {0}
IsWhy Stopped why = ⊥
IsWhy Full why = ⊥
IsWhy Lost why = ⊥
IsWhy Dropped why = ⊥

-- it is told that the item is given up, or nothing, and the end comes
pub record GivesUp (end : WriteEnd) (item : Item) (before now : List Notice) : Type 0 where
  pub fault : Option Fault
  pub why : IsWhy end fault
  pub told : now ≡ before ++ given_up item fault
