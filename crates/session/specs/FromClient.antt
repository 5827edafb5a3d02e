-- What the messages of clients say. A message is a list whose first element is its type; `None` is a wrong shape.
use Rattle.std.specs.Prelude.{◌≡◌, ◌⊎◌, ⊤, ℕ, ℤ, pos, negsuc, ◌&&◌, nat_lt, List, codes, None, Some, if◌then◌else◌}
use Rattle.std.specs.declared.option.Option.{Option}
use Rattle.std.specs.Option.{option_map}
use Rattle.message_tree.specs.Data.{Data, null, whole, text, list, dict, Items, no_items, item, Entries, find_entry}
use Rattle.eligibility.specs.Options.{number_of, text_of}
use Rattle.eligibility.specs.Lists.{is_number}
use Rattle.wamp_messages.specs.Options.{publish_options_of, subscribe_options_of}
use Rattle.wamp_messages.specs.declared.publish_options.PublishOptions.{PublishOptions}
use Rattle.wamp_messages.specs.declared.subscribe_options.SubscribeOptions.{SubscribeOptions}
use Rattle.wamp_messages.specs.Arguments.{Arguments}
-- what Arguments and ArgumentsKw are read as
pub use Rattle.arguments.specs.Reading.{args_of, kwargs_of, with_args, with_both}
use Rattle.session.specs.declared.fault.Fault.{Fault}
use Rattle.session.specs.declared.fault.Fault.TheVariants as fault
use Rattle.wamp_messages.specs.declared.said.Said.{Said}
use Rattle.wamp_messages.specs.declared.said.Said.TheVariants.{Hello, Abort, Goodbye, Publish, Subscribe, Unsubscribe}

abbrev pub dict_of : Data → Option Entries
dict_of (dict es) = Some es
dict_of _ = None

-- what a dictionary asks for as the options of a PUBLISH
abbrev pub publish_options_in : Data → Option PublishOptions
publish_options_in d = option_map publish_options_of (dict_of d)

-- what it asks for as the options of a SUBSCRIBE
abbrev pub subscribe_options_in : Data → Option SubscribeOptions
subscribe_options_in d = option_map subscribe_options_of (dict_of d)

-- an id is a whole number from 1 to 2^53
abbrev pub id_among : ℤ → Option ℕ
id_among (pos n) = if nat_lt 0 n && nat_lt n 9007199254740993 then Some n else None
id_among (negsuc n) = None

abbrev pub id_of : Data → Option ℕ
id_of (whole z) = id_among z
id_of _ = None

-- a text, or no text where it is absent or null
abbrev pub text_or_none : Option Data → Option (Option (List ℕ))
text_or_none None = Some None
text_or_none (Some null) = Some None
text_or_none (Some (text s)) = Some (Some s)
text_or_none (Some _) = None

-- the first element, where it is of the kind, and those after it
abbrev pub first : {X : Type 0} → (Data → Option X) → Items → Option (X × Items)
first kind no_items = None
first kind (item d ds) = option_map (λ x. (x, ds)) (kind d)

-- of the elements `old` the next one, where it is of the kind, is what was found, and `new` the rest
abbrev pub IsNext : {X : Type 0} → (Data → Option X) → Items → Option X → Items → Type 0
IsNext kind old (Some x) new = first kind old ≡ Some (x, new)
IsNext kind old None new = first kind old ≡ None

abbrev pub and_then : {X Y : Type 0} → Option (X × Items) → (X → Items → Option Y) → Option Y
and_then None next = None
and_then (Some p) next = next p.0 p.1

-- this, where nothing stands after it
abbrev pub last : {Y : Type 0} → Items → Option Y → Option Y
last no_items y = y
last (item d ds) y = None

abbrev pub IsMore : Items → Type 0
IsMore no_items = ⊥
IsMore (item d ds) = ⊤

-- (Arguments, (ArgumentsKw))
abbrev pub arguments_of : Items → Option Arguments
arguments_of no_items = Some (record { args = None; kwargs = None })
arguments_of (item a no_items) = with_args (args_of a)
arguments_of (item a (item k no_items)) = with_both (args_of a) (kwargs_of k)
arguments_of (item a (item k (item d ds))) = None

-- Realm, Details
unfoldable pub hello : Items → Option Said
hello ds =
    and_then (first text_of ds) (λ realm more. and_then (first dict_of more) (λ details rest.
    last rest (option_map (Hello realm) (text_or_none (find_entry (codes "authid") details)))))

-- Details, Reason; what stands after them is passed over
unfoldable pub ending : Said → Items → Option Said
ending said ds = and_then (first dict_of ds) (λ details more. and_then (first text_of more) (λ reason rest. Some said))

-- Request, Options, Topic, (Arguments, (ArgumentsKw))
unfoldable pub publish : Items → Option Said
publish ds =
    and_then (first id_of ds) (λ request more. and_then (first publish_options_in more) (λ options others. and_then (first text_of others) (λ topic rest.
    option_map (λ args. Publish (record { request = request; options = options; topic = topic; args = args })) (arguments_of rest))))

-- Request, Options, Topic
unfoldable pub subscribe : Items → Option Said
subscribe ds =
    and_then (first id_of ds) (λ request more. and_then (first subscribe_options_in more) (λ options others. and_then (first text_of others) (λ topic rest.
    last rest (Some (Subscribe request options topic)))))

-- Request, Subscription
unfoldable pub unsubscribe : Items → Option Said
unsubscribe ds =
    and_then (first id_of ds) (λ request more. and_then (first id_of more) (λ subscription rest. last rest (Some (Unsubscribe request subscription))))

abbrev pub said_by : ℤ → Items → Option Said
said_by type ds =
    if is_number 1 type then hello ds
    else if is_number 3 type then ending Abort ds
    else if is_number 6 type then ending Goodbye ds
    else if is_number 16 type then publish ds
    else if is_number 32 type then subscribe ds
    else if is_number 34 type then unsubscribe ds
    else None

abbrev pub said_in : Items → Option Said
said_in ds = and_then (first number_of ds) said_by

-- what a message says
unfoldable pub said_of : Data → Option Said
said_of (list ds) = said_in ds
said_of _ = None

-- the faults that reading may answer
abbrev pub IsReadFault : Fault → Type 0
IsReadFault f = (f ≡ fault.NoMemory) ⊎ (f ≡ fault.Shape)
