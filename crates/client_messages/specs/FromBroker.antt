-- What the messages of a broker say to a client. A message is a list whose first element is its type; `None` is a message of another kind or shape.
use Rattle.std.specs.Prelude.{ℕ, ℤ, Bool, false, List, codes, None, Some, if◌then◌else◌}
use Rattle.std.specs.declared.option.Option.{Option}
use Rattle.message_tree.specs.Data.{Data, null, list, Items, Entries, find_entry}
use Rattle.eligibility.specs.Lists.{is_number}
use Rattle.eligibility.specs.Options.{flag_or, number_of, text_of}
use Rattle.wamp_messages.specs.Arguments.{Arguments}
use Rattle.session.specs.FromClient.{and_then, arguments_of, dict_of, first, id_of, last, text_or_none}
use Rattle.wamp_messages.specs.declared.item.Request.{Request}
use Rattle.wamp_messages.specs.declared.item.Request.TheVariants as kind
use Rattle.client_messages.specs.declared.heard.EventDetails.{EventDetails}
use Rattle.client_messages.specs.declared.heard.Heard as hearings
use Rattle.client_messages.specs.declared.heard.Heard.TheVariants.{Welcome, Abort, Goodbye, Error, Published, Subscribed, Unsubscribed, Event}

-- the requests of a client that publishes and subscribes, by the types of their messages
abbrev pub request_by : ℤ → Option Request
request_by type =
    if is_number 16 type then Some kind.Publish
    else if is_number 32 type then Some kind.Subscribe
    else if is_number 34 type then Some kind.Unsubscribe
    else None

abbrev pub kind_in : Option ℤ → Option Request
kind_in None = None
kind_in (Some type) = request_by type

abbrev pub request_of : Data → Option Request
request_of d = kind_in (number_of d)

abbrev pub some_id : Option ℕ → Option (Option ℕ)
some_id None = None
some_id (Some n) = Some (Some n)

-- an id, or no id where it is absent or null
abbrev pub id_or_none : Option Data → Option (Option ℕ)
id_or_none None = Some None
id_or_none (Some null) = Some None
id_or_none (Some d) = some_id (id_of d)

abbrev pub details_by : Option (Option (List ℕ)) → Option Bool → Option (Option ℕ) → Option (Option (List ℕ)) → Option (Option (List ℕ)) → Option EventDetails
details_by (Some topic) (Some retained) (Some publisher) (Some authid) (Some authrole) =
    Some (record { topic = topic; retained = retained; publisher = publisher; publisher_authid = authid; publisher_authrole = authrole })
details_by _ _ _ _ _ = None

-- what EVENT.Details tells; a null counts as absent, and other keys are passed over
unfoldable pub event_details_of : Entries → Option EventDetails
event_details_of es =
    details_by (text_or_none (find_entry (codes "topic") es)) (flag_or false (find_entry (codes "retained") es)) (id_or_none (find_entry (codes "publisher") es))
    (text_or_none (find_entry (codes "publisher_authid") es)) (text_or_none (find_entry (codes "publisher_authrole") es))

abbrev pub event_with : ℕ → ℕ → Option EventDetails → Option Arguments → Option hearings.Heard
event_with subscription publication (Some details) (Some args) = Some (Event subscription publication details args)
event_with subscription publication _ _ = None

-- Session, Details
unfoldable pub welcome : Items → Option hearings.Heard
welcome ds = and_then (first id_of ds) (λ session more. and_then (first dict_of more) (λ details rest. last rest (Some (Welcome session))))

-- Details, Reason; what stands after them is passed over
unfoldable pub ending : (List ℕ → hearings.Heard) → Items → Option hearings.Heard
ending heard ds = and_then (first dict_of ds) (λ details more. and_then (first text_of more) (λ reason rest. Some (heard reason)))

-- RequestType, Request, Details, Error; what stands after them is passed over
unfoldable pub error : Items → Option hearings.Heard
error ds =
    and_then (first request_of ds) (λ of more. and_then (first id_of more) (λ request others. and_then (first dict_of others) (λ details behind.
    and_then (first text_of behind) (λ reason rest. Some (Error of request reason)))))

-- Request, and the id that it was given
unfoldable pub answer : (ℕ → ℕ → hearings.Heard) → Items → Option hearings.Heard
answer heard ds = and_then (first id_of ds) (λ request more. and_then (first id_of more) (λ id rest. last rest (Some (heard request id))))

-- Request
unfoldable pub unsubscribed : Items → Option hearings.Heard
unsubscribed ds = and_then (first id_of ds) (λ request rest. last rest (Some (Unsubscribed request)))

-- Subscription, Publication, Details, (Arguments, (ArgumentsKw))
unfoldable pub event : Items → Option hearings.Heard
event ds =
    and_then (first id_of ds) (λ subscription more. and_then (first id_of more) (λ publication others. and_then (first dict_of others) (λ details rest.
    event_with subscription publication (event_details_of details) (arguments_of rest))))

abbrev pub heard_by : ℤ → Items → Option hearings.Heard
heard_by type ds =
    if is_number 2 type then welcome ds
    else if is_number 3 type then ending Abort ds
    else if is_number 6 type then ending Goodbye ds
    else if is_number 8 type then error ds
    else if is_number 17 type then answer Published ds
    else if is_number 33 type then answer Subscribed ds
    else if is_number 35 type then unsubscribed ds
    else if is_number 36 type then event ds
    else None

abbrev pub heard_in : Items → Option hearings.Heard
heard_in ds = and_then (first number_of ds) heard_by

-- what a message of a broker says
unfoldable pub heard_of : Data → Option hearings.Heard
heard_of (list ds) = heard_in ds
heard_of _ = None
