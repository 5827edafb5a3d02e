-- The message by which a client says something. That a broker reads it as just that, `said_of` of `session` says.
use Rattle.std.specs.Prelude.{ℕ, List, codes, None, Some}
use Rattle.std.specs.declared.option.Option.{Option}
use Rattle.message_tree.specs.Data.{Data, text, list, dict, no_items, item, Entries, no_entries, put, entries_depth}
use Rattle.wamp_messages.specs.Options.{publish_options_of, subscribe_options_of}
use Rattle.wamp_messages.specs.Arguments.{Arguments, last_items}
use Rattle.session.specs.ToClient.{number, triple}
use Rattle.wamp_messages.specs.declared.said.Said as brokers
use Rattle.wamp_messages.specs.declared.said.Said.TheVariants as read
use Rattle.client_messages.specs.declared.client_message.ClientMessage.{ClientMessage}
use Rattle.client_messages.specs.declared.client_message.ClientMessage.TheVariants.{Hello, Abort, Goodbye, GoodbyeAndOut, Publish, Subscribe, Unsubscribe}

abbrev pub roles : Entries
roles = put (codes "publisher") (dict no_entries) (put (codes "subscriber") (dict no_entries) no_entries)

-- the client has nothing to prove who it is
abbrev pub authmethods : Data
authmethods = list (item (text (codes "anonymous")) no_items)

-- HELLO.Details: the roles, and the authid that is asked for
abbrev pub hello_details : Option (List ℕ) → Entries
hello_details None = put (codes "roles") (dict roles) no_entries
hello_details (Some authid) =
    put (codes "authid") (text authid) (put (codes "authmethods") authmethods (put (codes "roles") (dict roles) no_entries))

-- [HELLO, Realm, Details]
unfoldable pub hello : List ℕ → Option (List ℕ) → Data
hello realm authid = list (item (number 1) (item (text realm) (item (dict (hello_details authid)) no_items)))

-- [type, {}, Reason]
unfoldable pub ending : ℕ → List ℕ → Data
ending type reason = list (item (number type) (item (dict no_entries) (item (text reason) no_items)))

-- [PUBLISH, Request, Options, Topic, (Arguments, (ArgumentsKw))]
unfoldable pub publish : ℕ → Entries → List ℕ → Arguments → Data
publish request options topic a =
    list (item (number 16) (item (number request) (item (dict options) (item (text topic) (last_items a.args a.kwargs)))))

-- [SUBSCRIBE, Request, Options, Topic]
unfoldable pub subscribe : ℕ → Entries → List ℕ → Data
subscribe request options topic =
    list (item (number 32) (item (number request) (item (dict options) (item (text topic) no_items))))

-- the message of what is said; who gives a session up does so because the broker broke the protocol
abbrev pub message_for : ClientMessage → Data
message_for (Hello realm authid) = hello realm authid
message_for Abort = ending 3 (codes "wamp.error.protocol_violation")
message_for Goodbye = ending 6 (codes "wamp.close.close_realm")
message_for GoodbyeAndOut = ending 6 (codes "wamp.close.goodbye_and_out")
message_for (Publish request options topic args) = publish request options topic args
message_for (Subscribe request options topic) = subscribe request options topic
message_for (Unsubscribe request subscription) = triple 34 request subscription

-- how deep the options nest that come with it
abbrev pub options_depth : ClientMessage → ℕ
options_depth (Publish request options topic args) = entries_depth options
options_depth (Subscribe request options topic) = entries_depth options
options_depth _ = 0

-- what a broker reads it as: of options it keeps what they ask for
abbrev pub read_as : ClientMessage → brokers.Said
read_as (Hello realm authid) = read.Hello realm authid
read_as Abort = read.Abort
read_as Goodbye = read.Goodbye
read_as GoodbyeAndOut = read.Goodbye
read_as (Publish request options topic args) =
    read.Publish (record { request = request; options = publish_options_of options; topic = topic; args = args })
read_as (Subscribe request options topic) = read.Subscribe request (subscribe_options_of options) topic
read_as (Unsubscribe request subscription) = read.Unsubscribe request subscription
