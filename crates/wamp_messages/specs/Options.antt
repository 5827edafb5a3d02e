-- What the options of a request ask for. An option whose value is null counts as absent, and `None` is a wrong type.
-- (WAMP, "Subscribing and Unsubscribing", "Publishing and Events": SUBSCRIBE.Options, PUBLISH.Options.)
use Rattle.std.specs.Prelude.{ℕ, Bool, false, List, codes, None, Some, if◌then◌else◌}
use Rattle.std.specs.declared.option.Option.{Option}
use Rattle.std.specs.Str.{bytes_eq}
use Rattle.message_tree.specs.Data.{Data, null, flag, whole, text, bytes, list, dict, uncarried, Entries, find_entry}
use Rattle.eligibility.specs.Lists.{audience_of}
use Rattle.eligibility.specs.Options.{flag_or}
use Rattle.wamp_messages.specs.declared.publish_options.PublishOptions.{PublishOptions}
use Rattle.wamp_messages.specs.declared.subscribe_options.SubscribeOptions.{SubscribeOptions}
use Rattle.wamp_ids.specs.declared.pattern.Policy.{Policy}
use Rattle.wamp_ids.specs.declared.pattern.Policy.TheVariants.{Exact, Prefix, Wildcard}

-- the policy of this name
abbrev pub policy_named : List ℕ → Option Policy
policy_named t =
    if bytes_eq t (codes "exact") then Some Exact
    else if bytes_eq t (codes "prefix") then Some Prefix
    else if bytes_eq t (codes "wildcard") then Some Wildcard
    else None

abbrev pub policy_or_exact : Option Data → Option Policy
policy_or_exact None = Some Exact
policy_or_exact (Some null) = Some Exact
policy_or_exact (Some (flag b)) = None
policy_or_exact (Some (whole z)) = None
policy_or_exact (Some (text s)) = policy_named s
policy_or_exact (Some (bytes b)) = None
policy_or_exact (Some (list ds)) = None
policy_or_exact (Some (dict es)) = None
policy_or_exact (Some uncarried) = None

-- the publisher wants PUBLISHED or ERROR
abbrev pub acknowledge_of : Entries → Option Bool
acknowledge_of options = flag_or false (find_entry (codes "acknowledge") options)

-- the publisher lets its events name it
abbrev pub disclose_me_of : Entries → Option Bool
disclose_me_of options = flag_or false (find_entry (codes "disclose_me") options)

-- the publication is to be its topic's retained one
abbrev pub retain_of : Entries → Option Bool
retain_of options = flag_or false (find_entry (codes "retain") options)

-- the subscriber wants what is retained
abbrev pub get_retained_of : Entries → Option Bool
get_retained_of options = flag_or false (find_entry (codes "get_retained") options)

-- how the pattern is to be compared
abbrev pub match_of : Entries → Option Policy
match_of options = policy_or_exact (find_entry (codes "match") options)

-- what the options of a PUBLISH ask for
abbrev pub publish_options_of : Entries → PublishOptions
publish_options_of options = record {
  acknowledge = acknowledge_of options;
  disclose_me = disclose_me_of options;
  retain = retain_of options;
  lists = audience_of options;
}

-- what the options of a SUBSCRIBE ask for
abbrev pub subscribe_options_of : Entries → SubscribeOptions
subscribe_options_of options = record {
  policy = match_of options;
  get_retained = get_retained_of options;
}
