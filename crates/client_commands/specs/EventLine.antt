-- The line that is printed for an event.
use Rattle.std.specs.Prelude.{ℕ, true, List, [], ◌∷◌, ◌++◌, codes, None, Some, if◌then◌else◌}
use Rattle.std.specs.declared.option.Option.{Option}
use Rattle.json.specs.Print.{escape}
use Rattle.message_tree.specs.Data.{Data, list, flag, text, dict, Items, no_items, item, Entries, no_entries, entry, joined}
use Rattle.json_codec.specs.Encoder.{json_text}
use Rattle.arguments.specs.Arguments.{Arguments, is_all_carried}
use Rattle.session.specs.ToClient.{number}
use Rattle.client_messages.specs.declared.heard.EventDetails.{EventDetails}
use Rattle.client_commands.specs.Controls.{shown}
use Rattle.client_commands.specs.declared.command.LineForm.{LineForm}
use Rattle.client_commands.specs.declared.command.LineForm.TheVariants.{Json, Plain}

-- a comma, a key and a colon
abbrev pub name_of : List ℕ → List ℕ
name_of key = 44 ∷ (json_text (text key) ++ 58 ∷ [])

-- the entry of this key, where it has a value
abbrev pub entry_if_any : List ℕ → Option Data → Entries
entry_if_any k None = no_entries
entry_if_any k (Some d) = entry k d no_entries

abbrev pub number_if_any : Option ℕ → Option Data
number_if_any None = None
number_if_any (Some n) = Some (number n)

abbrev pub text_if_any : Option (List ℕ) → Option Data
text_if_any None = None
text_if_any (Some t) = Some (text t)

-- the arguments, each where it was published
abbrev pub given_entries : Arguments → Entries
given_entries a = joined (entry_if_any (codes "args") a.args) (entry_if_any (codes "kwargs") a.kwargs)

-- where JSON has a spelling for them
unfoldable pub argument_entries : Arguments → Entries
argument_entries a = if is_all_carried a then given_entries a else no_entries

-- what is told of the publisher, each where it is there
unfoldable pub publisher_entries : EventDetails → Entries
publisher_entries details =
    joined (entry_if_any (codes "publisher") (number_if_any details.publisher)) (joined (entry_if_any (codes "publisher_authid") (text_if_any details.publisher_authid))
    (entry_if_any (codes "publisher_authrole") (text_if_any details.publisher_authrole)))

-- that JSON has no spelling for the arguments
unfoldable pub uncarried_entries : Arguments → Entries
uncarried_entries a = if is_all_carried a then no_entries else entry (codes "uncarried") (flag true) no_entries

-- what a line tells of an event behind its topic
unfoldable pub event_entries : ℕ → EventDetails → Arguments → Entries
event_entries publication details args =
    joined (argument_entries args) (entry (codes "publication") (number publication)
    (joined (publisher_entries details) (entry (codes "retained") (flag details.retained) (uncarried_entries args))))

-- in JSON: a dictionary, its topic first, then the other keys, which ascend
unfoldable pub json_line : List ℕ → ℕ → EventDetails → Arguments → List ℕ
json_line topic publication details args = json_text (dict (entry (codes "topic") (text topic) (event_entries publication details args)))

-- each in JSON behind a space
abbrev pub spaced : Items → List ℕ
spaced no_items = []
spaced (item d ds) = 32 ∷ (json_text d ++ spaced ds)

-- the members of the list of arguments
abbrev pub members : Option Data → Items
members (Some (list ds)) = ds
members _ = no_items

abbrev pub item_if_any : Option Data → Items
item_if_any None = no_items
item_if_any (Some d) = item d no_items

-- the arguments one by one, and those by key as one dictionary; or that JSON has no spelling for them
unfoldable pub plain_arguments : Arguments → List ℕ
plain_arguments a = if is_all_carried a then spaced (members a.args) ++ spaced (item_if_any a.kwargs) else codes " uncarried"

-- for people: the topic, as JSON has it between quotes, and the arguments
unfoldable pub plain_line : List ℕ → Arguments → List ℕ
plain_line topic args = escape topic ++ plain_arguments args

-- the line of an event without its LF, whatever controls stand in it
abbrev pub bare_line : LineForm → List ℕ → ℕ → EventDetails → Arguments → List ℕ
bare_line Json topic publication details args = json_line topic publication details args
bare_line Plain topic publication details args = plain_line topic args

-- the line of an event
unfoldable pub event_line : LineForm → List ℕ → ℕ → EventDetails → Arguments → List ℕ
event_line form topic publication details args = shown (bare_line form topic publication details args) ++ 10 ∷ []
