-- An input that is published as one argument.
use Rattle.std.specs.Prelude.{◌≡◌, ◌<◌, ◌≤◌, ℕ, List, ◌++◌, length}
use Rattle.rawsocket.specs.Steps.{Told, Fine, Failed, NoTurn}
use Rattle.message_tree.specs.Data.{bytes, list, item, no_items}
use Rattle.client_commands.specs.declared.command.Arguments.{Arguments}
use Rattle.client_commands.specs.declared.command.Arguments.TheVariants.{Words}
use Rattle.client_commands.specs.declared.file_input.InputFault.{InputFault}
use Rattle.client_commands.specs.declared.file_input.InputFault.TheVariants.{ReadFault, TooManyTurns}

-- an input gave these octets, at most 2 ^ 20
pub record ReadsWhole (given_before given octets : List ℕ) : Type 0 where
  pub read : given ≡ given_before ++ octets
  pub fits : length octets ≤ 1048576

-- and they are the one argument, a byte string
pub record IsWhole (given_before given : List ℕ) (arguments : Arguments) : Type 0 where
  pub octets : List ℕ
  pub reads : ReadsWhole given_before given octets
  pub are : arguments ≡ Words (list (item (bytes octets) no_items))

-- an input gave more than that
pub record Exceeds (given_before given : List ℕ) : Type 0 where
  pub octets : List ℕ
  pub read : given ≡ given_before ++ octets
  pub long : 1048576 < length octets

-- what a fault tells of the input
abbrev pub whole_told : InputFault → Told
whole_told ReadFault = Failed
whole_told TooManyTurns = NoTurn
whole_told _ = Fine
