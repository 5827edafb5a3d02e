-- The values of the known options among entries.
use Rattle.std.specs.Prelude.{codes}
use Rattle.message_tree.specs.Data.{Entries, find_entry}
use Rattle.eligibility.specs.Lists.{found_in}
use Rattle.wamp_messages.specs.declared.publish_values.PublishValues.{PublishValues}
use Rattle.wamp_messages.specs.declared.subscribe_values.SubscribeValues.{SubscribeValues}

abbrev pub publish_values_of : Entries → PublishValues
publish_values_of options = record {
  acknowledge = find_entry (codes "acknowledge") options;
  disclose_me = find_entry (codes "disclose_me") options;
  retain = find_entry (codes "retain") options;
  lists = found_in options;
}

abbrev pub subscribe_values_of : Entries → SubscribeValues
subscribe_values_of options = record {
  policy = find_entry (codes "match") options;
  get_retained = find_entry (codes "get_retained") options;
}
