-- What `subscribe` does over one connection after another.
use Rattle.std.specs.Prelude.{◌≡◌, ◌*◌, ◌⊎◌, ℕ, zero, suc, Bool, true, false, List, [], max, min}
use Rattle.std.specs.declared.option.Option.{Option}
use Rattle.session.specs.Opened.{Exchange, exchange}
use Rattle.client_commands.specs.Acts.{IsSilent, PrintsAfterAsking}
use Rattle.client_commands.specs.Notes.{Noting}
use Rattle.client_commands.specs.declared.command.SubscribeCommand.{SubscribeCommand}
use Rattle.client_commands.specs.declared.listener.Listener.{Listener}

-- what is seen of a subscriber: what it printed, what it noted, and how many events are left to be printed
pub record Stage : Type 0 where
  pub lines : List ℕ
  pub notes : Noting
  pub left : Option ℕ

abbrev pub stage : List ℕ → Noting → Option ℕ → Stage
stage lines notes left = record { lines = lines; notes = notes; left = left }

-- over one connection it printed, noted and counted what one `subscribe` does: nothing, or what the broker's octets on that connection say
pub record PrintsOnce (command : SubscribeCommand) (before now : Stage) : Type 0 where
  pub listener : Listener
  pub left : listener.left ≡ now.left
  pub last : Exchange
  pub prints :
      IsSilent before.lines now.lines before.notes now.notes before.left listener
      ⊎ PrintsAfterAsking command.contact.serializer command.contact.realm command.contact.authid command.wishes command.form command.topics.items
      (exchange [] []) last before.lines now.lines before.notes now.notes before.left listener

-- and so over one connection after another
abbrev pub PrintsOverAll : SubscribeCommand → ℕ → Stage → Stage → Type 0
PrintsOverAll command zero before now = now ≡ before
PrintsOverAll command (suc connections) before now = (mid : Stage) × PrintsOverAll command connections before mid × PrintsOnce command mid now

-- how many seconds it waits behind a connection: 1 where it was subscribed, else twice as many as the last time, from 1 to 60
abbrev pub pause_behind : ℕ → Bool → ℕ
pause_behind last true = 1
pause_behind last false = min 60 (max 1 (2 * last))
