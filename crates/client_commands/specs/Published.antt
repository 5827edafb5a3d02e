-- What `publish` published.
use Rattle.std.specs.Prelude.{◌≡◌, ℕ, Bool, true, false, List, ◌++◌, length, ⊤, Some}
use Rattle.message_tree.specs.Data.{Data}
use Rattle.session.specs.Opened.{Exchange}
use Rattle.client_session.specs.Hearing.{Ear, Terms}
use Rattle.client_session.specs.Sessions.{Welcomed}
use Rattle.client_commands.specs.Acts.{Joins, Leaves, standing, terms_of}
use Rattle.client_commands.specs.Lines.{AreLines, HaveNoLineFeed, ended, has_line_feed}
use Rattle.client_commands.specs.Pacing.{AllAnswered, IsPaced, IsPublished}
use Rattle.client_commands.specs.declared.command.Arguments as commands
use Rattle.client_commands.specs.declared.command.Arguments.TheVariants.{Words, Lines}
use Rattle.client_commands.specs.declared.command.PublishCommand.{PublishCommand}
use Rattle.client_commands.specs.declared.line_input.Progress.{Progress}

-- of what was read of the input the whole lines are published, so many, and so many of them are acknowledged
pub record IsPublishedOf (command : PublishCommand) (t : Terms) (before now : Ear) (input rest : List ℕ) (count answered : ℕ) : Type 0 where
  pub lines : List (List ℕ)
  pub split : input ≡ ended lines ++ rest
  pub lines_clean : HaveNoLineFeed lines
  pub rest_clean : has_line_feed rest ≡ false
  pub counted : count ≡ length lines
  pub publishes : IsPaced command t before now lines answered

-- this holds of whatever was published till then of an input, as the progress says
abbrev pub WherePublished : PublishCommand → Terms → Ear → Progress → (Ear → List ℕ → Type 0) → Type 0
WherePublished command t now progress P = (before : Ear) (input : List ℕ) → IsPublishedOf command t before now input progress.rest.items progress.count progress.answered → P before input

-- all lines of the input are published, and acknowledged
pub record PublishesInput (command : PublishCommand) (t : Terms) (before now : Ear) (given_before given : List ℕ) : Type 0 where
  pub input : List ℕ
  pub read : given ≡ given_before ++ input
  pub lines : List (List ℕ)
  pub are : AreLines input lines
  pub answered : ℕ
  pub publishes : IsPaced command t before now lines answered
  pub all : AllAnswered command.wishes.acknowledge (length lines) answered

-- the words are published once, and nothing is read of the input
pub record PublishesWords (command : PublishCommand) (t : Terms) (words : Data) (before now : Ear) (given_before given : List ℕ) : Type 0 where
  pub published : IsPublished command t 1 (record { args = Some words; kwargs = command.kwargs }) before now
  pub unread : given ≡ given_before

abbrev pub PublishesAs : commands.Arguments → PublishCommand → Terms → Ear → Ear → List ℕ → List ℕ → Type 0
PublishesAs (Words words) command t before now given_before given = PublishesWords command t words before now given_before given
PublishesAs Lines command t before now given_before given = PublishesInput command t before now given_before given

-- what a command is told to publish is published
abbrev pub PublishesAll : PublishCommand → Terms → Ear → Ear → List ℕ → List ℕ → Type 0
PublishesAll command t before now given_before given = PublishesAs command.arguments command t before now given_before given

-- where lines of the input are published, it is read to its end
abbrev pub IsReadToEnd : commands.Arguments → Bool → Type 0
IsReadToEnd (Words words) ended = ⊤
IsReadToEnd Lines ended = ended ≡ true

-- what `publish` did that ended well
pub record Publishes (command : PublishCommand) (before now : Exchange) (given_before given : List ℕ) : Type 0 where
  pub joined : Exchange
  pub session : Welcomed
  pub joins : Joins command.contact.serializer command.contact.realm command.contact.authid before joined session
  pub published : Ear
  pub publishes : PublishesAll command (terms_of session) (standing session joined.given joined.taken) published given_before given
  pub left : Ear
  pub leaves : Leaves (terms_of session) published left
  pub given_is : now.given ≡ left.given
  pub taken_is : now.taken ≡ left.taken
