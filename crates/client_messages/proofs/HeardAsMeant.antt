-- What is heard in the messages of this broker is what it meant.
use Rattle.std.proofs.Common.{◌≡◌, ℕ, Option, Some, None, Bool, true, false, refl, ap, sym, ◌∙◌}
use Rattle.std.specs.Option.{option_and_then}
use Rattle.wamp_ids.specs.Numbers.{IsId}
use Rattle.message_tree.specs.Data.{Data}
use Rattle.wamp_messages.specs.Arguments.{Arguments, is_args_if_any, is_kwargs_if_any, last_items}
use Rattle.session.specs.FromClient.{arguments_of}
use Rattle.session.specs.ToClient.{put_if, event_details, message_of, uri_of}
use Rattle.wamp_messages.specs.declared.item.Publication.{Publication}
use Rattle.wamp_messages.specs.declared.item.Reason.{Reason}
use Rattle.wamp_messages.specs.declared.item.Request as requests
use Rattle.wamp_messages.specs.declared.item.Request.TheVariants as kind
use Rattle.wamp_messages.specs.declared.item.Item as items
use Rattle.wamp_messages.specs.declared.item.Item.TheVariants as told
use Rattle.client_messages.specs.FromBroker.{heard_of, welcome, ending, error, answer, unsubscribed, event, event_details_of, event_with}
use Rattle.client_messages.specs.Laws.{meant, told_details}
use Rattle.client_messages.specs.declared.heard.Heard as hearings
use Rattle.client_messages.specs.declared.heard.Heard.TheVariants as heard
use Rattle.client_messages.proofs.ReadBack.{id_of-number, arguments_of-last_items}

-- the numbers in an item are ids
abbrev pub HasIds : items.Item → Type 0
HasIds (told.Welcome w) = IsId w.id
HasIds (told.Abort reason) = Unit {0}
HasIds (told.Goodbye reason) = Unit {0}
HasIds (told.Error of request reason) = IsId request
HasIds (told.Published request n) = IsId request × IsId n
HasIds (told.Subscribed request n) = IsId request × IsId n
HasIds (told.Unsubscribed request) = IsId request
HasIds (told.Event n p with_topic retained) = IsId n × IsId p.id × IsId p.publisher.id
HasIds (told.Pong payload) = Unit {0}

-- arguments as a PUBLISH may have them
pub record AreArguments (a : Arguments) : Type 0 where
  pub args : is_args_if_any a.args ≡ true
  pub kwargs : is_kwargs_if_any a.kwargs ≡ true
  pub alone : a.args ≡ None → a.kwargs ≡ None

abbrev pub HasArguments : items.Item → Type 0
HasArguments (told.Event n p with_topic retained) = AreArguments p.args
HasArguments _ = Unit {0}

-- the details of an event are read as they were meant
details-told : (disclosed : Bool) (p : Publication) (with_topic retained : Bool) → p.disclosed ≡ disclosed → IsId p.publisher.id
    → event_details_of (event_details p with_topic retained) ≡ Some (told_details p with_topic retained)
unfolding event_details_of event_details put_if
details-told true p true true is id = rw (is, id_of-number p.publisher.id id) refl
details-told true p true false is id = rw (is, id_of-number p.publisher.id id) refl
details-told true p false true is id = rw (is, id_of-number p.publisher.id id) refl
details-told true p false false is id = rw (is, id_of-number p.publisher.id id) refl
details-told false p true true is id = rw is refl
details-told false p true false is id = rw is refl
details-told false p false true is id = rw is refl
details-told false p false false is id = rw is refl

abbrev heard_if_any : Option Data → Option hearings.Heard
heard_if_any message = option_and_then heard_of message

heard-error : (of : requests.Request) (request : ℕ) (reason : Reason) → IsId request → heard_if_any (message_of (told.Error of request reason)) ≡ Some (heard.Error of request (uri_of reason))
unfolding heard_of error
heard-error kind.Publish request reason id = rw (id_of-number request id) refl
heard-error kind.Subscribe request reason id = rw (id_of-number request id) refl
heard-error kind.Unsubscribe request reason id = rw (id_of-number request id) refl

as_meant : (i : items.Item) → HasIds i → HasArguments i → heard_if_any (message_of i) ≡ meant i
unfolding heard_of welcome ending answer unsubscribed event
as_meant (told.Welcome w) id fit = rw (id_of-number w.id id) refl
as_meant (told.Abort reason) id fit = refl
as_meant (told.Goodbye reason) id fit = refl
as_meant (told.Error of request reason) id fit = heard-error of request reason id
as_meant (told.Published request n) id fit = rw (id_of-number request id.0, id_of-number n id.1) refl
as_meant (told.Subscribed request n) id fit = rw (id_of-number request id.0, id_of-number n id.1) refl
as_meant (told.Unsubscribed request) id fit = rw (id_of-number request id) refl
as_meant (told.Event n p with_topic retained) id fit =
    rw (id_of-number n id.0, id_of-number p.id id.1)
    (ap (λ d. event_with n p.id d (arguments_of (last_items p.args.args p.args.kwargs))) (details-told p.disclosed p with_topic retained refl id.2)
    ∙ ap (event_with n p.id (Some (told_details p with_topic retained))) (arguments_of-last_items p.args.args p.args.kwargs fit.args fit.kwargs fit.alone))
as_meant (told.Pong payload) id fit = refl

pub heard_as_meant : (i : items.Item) → HasIds i → HasArguments i → (message : Data) → message_of i ≡ Some message → heard_of message ≡ meant i
heard_as_meant i id fit message e = sym (ap heard_if_any e) ∙ as_meant i id fit
