-- What an item that this broker owes a client says to it.
use Rattle.std.specs.Prelude.{Bool, cond, None, Some}
use Rattle.std.specs.declared.option.Option.{Option}
use Rattle.session.specs.ToClient.{uri_of}
use Rattle.wamp_messages.specs.declared.item.Publication.{Publication}
use Rattle.wamp_messages.specs.declared.item.Item as items
use Rattle.wamp_messages.specs.declared.item.Item.TheVariants as told
use Rattle.client_messages.specs.declared.heard.EventDetails.{EventDetails}
use Rattle.client_messages.specs.declared.heard.Heard.{Heard}
use Rattle.client_messages.specs.declared.heard.Heard.TheVariants as heard

-- this, where it is told
abbrev pub when : {X : Type 0} → Bool → X → Option X
when told x = cond told (Some x) None

abbrev pub told_details : Publication → Bool → Bool → EventDetails
told_details p with_topic retained = record {
  topic = when with_topic p.topic;
  retained = retained;
  publisher = when p.disclosed p.publisher.id;
  publisher_authid = when p.disclosed p.publisher.authid;
  publisher_authrole = when p.disclosed p.publisher.authrole;
}

-- a PONG is no message
abbrev pub meant : items.Item → Option Heard
meant (told.Welcome w) = Some (heard.Welcome w.id)
meant (told.Abort reason) = Some (heard.Abort (uri_of reason))
meant (told.Goodbye reason) = Some (heard.Goodbye (uri_of reason))
meant (told.Error of request reason) = Some (heard.Error of request (uri_of reason))
meant (told.Published request n) = Some (heard.Published request n)
meant (told.Subscribed request n) = Some (heard.Subscribed request n)
meant (told.Unsubscribed request) = Some (heard.Unsubscribed request)
meant (told.Event n p with_topic retained) = Some (heard.Event n p.id (told_details p with_topic retained) p.args)
meant (told.Pong payload) = None
