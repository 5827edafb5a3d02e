-- The message that tells a client an item.
use Rattle.std.specs.Prelude.{ℕ, pos, Bool, true, cond, List, codes, None, Some}
use Rattle.std.specs.declared.option.Option.{Option}
use Rattle.message_tree.specs.Data.{Data, flag, whole, text, list, dict, no_items, item, Entries, no_entries, put}
use Rattle.eligibility.specs.declared.who.Who.{Who}
use Rattle.wamp_messages.specs.Arguments.{last_items}
use Rattle.wamp_messages.specs.declared.item.Publication.{Publication}
use Rattle.wamp_messages.specs.declared.item.Reason.{Reason}
use Rattle.wamp_messages.specs.declared.item.Reason.TheVariants.{ProtocolViolation, NoSuchRealm, NotAuthorized, SessionIdTaken, InvalidUri, InvalidArgument, NoSuchSubscription, TooManySubscriptions, RetainedFull, GoodbyeAndOut, SystemShutdown}
use Rattle.wamp_messages.specs.declared.item.Request as request
use Rattle.wamp_messages.specs.declared.item.Request.TheVariants as kind
use Rattle.wamp_messages.specs.declared.item.Item as items
use Rattle.wamp_messages.specs.declared.item.Item.TheVariants.{Welcome, Abort, Goodbye, Error, Published, Subscribed, Unsubscribed, Event, Pong}

abbrev pub number : ℕ → Data
number n = whole (pos n)

abbrev pub type_of : request.Request → ℕ
type_of kind.Publish = 16
type_of kind.Subscribe = 32
type_of kind.Unsubscribe = 34

abbrev pub uri_of : Reason → List ℕ
uri_of ProtocolViolation = codes "wamp.error.protocol_violation"
uri_of NoSuchRealm = codes "wamp.error.no_such_realm"
uri_of NotAuthorized = codes "wamp.error.not_authorized"
uri_of SessionIdTaken = codes "broker.error.session_id_taken"
uri_of InvalidUri = codes "wamp.error.invalid_uri"
uri_of InvalidArgument = codes "wamp.error.invalid_argument"
uri_of NoSuchSubscription = codes "wamp.error.no_such_subscription"
uri_of TooManySubscriptions = codes "broker.error.too_many_subscriptions"
uri_of RetainedFull = codes "broker.error.retained_full"
uri_of GoodbyeAndOut = codes "wamp.close.goodbye_and_out"
uri_of SystemShutdown = codes "wamp.close.system_shutdown"

-- the entries, with d at k where it is wanted
unfoldable pub put_if : Bool → List ℕ → Data → Entries → Entries
put_if wanted k d es = cond wanted (put k d es) es

-- the features that the broker announces
abbrev pub features : Entries
features =
    put (codes "event_retention") (flag true) (put (codes "pattern_based_subscription") (flag true) (put (codes "publisher_exclusion") (flag true)
    (put (codes "publisher_identification") (flag true) (put (codes "subscriber_blackwhite_listing") (flag true) no_entries))))

abbrev pub roles : Entries
roles = put (codes "broker") (dict (put (codes "features") (dict features) no_entries)) no_entries

unfoldable pub welcome_details : Who → Entries
welcome_details w =
    put (codes "authid") (text w.authid) (put (codes "authrole") (text w.authrole) (put (codes "roles") (dict roles) no_entries))

unfoldable pub event_details : Publication → Bool → Bool → Entries
event_details p with_topic retained =
    put_if p.disclosed (codes "publisher") (number p.publisher.id) (put_if p.disclosed (codes "publisher_authid") (text p.publisher.authid)
    (put_if p.disclosed (codes "publisher_authrole") (text p.publisher.authrole)
    (put_if retained (codes "retained") (flag true) (put_if with_topic (codes "topic") (text p.topic) no_entries))))

-- [type, Request or Subscription, Publication or Subscription]
abbrev pub triple : ℕ → ℕ → ℕ → Data
triple type n m = list (item (number type) (item (number n) (item (number m) no_items)))

-- [UNSUBSCRIBED, Request]
abbrev pub unsubscribed : ℕ → Data
unsubscribed request = list (item (number 35) (item (number request) no_items))

-- [type, {}, Reason]
abbrev pub farewell : ℕ → Reason → Data
farewell type reason = list (item (number type) (item (dict no_entries) (item (text (uri_of reason)) no_items)))

-- [ERROR, RequestType, Request, {}, Error]
abbrev pub error : request.Request → ℕ → Reason → Data
error of request reason =
    list (item (number 8) (item (number (type_of of)) (item (number request) (item (dict no_entries) (item (text (uri_of reason)) no_items)))))

-- [WELCOME, Session, Details]
abbrev pub welcome : Who → Data
welcome w = list (item (number 2) (item (number w.id) (item (dict (welcome_details w)) no_items)))

-- [EVENT, Subscription, Publication, Details, (Arguments, (ArgumentsKw))]
abbrev pub event : ℕ → Publication → Bool → Bool → Data
event n p with_topic retained =
    list (item (number 36) (item (number n) (item (number p.id) (item (dict (event_details p with_topic retained)) (last_items p.args.args p.args.kwargs)))))

-- the message of an item; a PONG is a frame of its own and no message
abbrev pub message_of : items.Item → Option Data
message_of (Welcome w) = Some (welcome w)
message_of (Abort reason) = Some (farewell 3 reason)
message_of (Goodbye reason) = Some (farewell 6 reason)
message_of (Error of request reason) = Some (error of request reason)
message_of (Published request n) = Some (triple 17 request n)
message_of (Subscribed request n) = Some (triple 33 request n)
message_of (Unsubscribed request) = Some (unsubscribed request)
message_of (Event n p with_topic retained) = Some (event n p with_topic retained)
message_of (Pong payload) = None
