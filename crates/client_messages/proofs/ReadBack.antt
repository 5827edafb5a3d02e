-- What a broker reads in the messages of clients.
use Rattle.std.proofs.Common.{◌≡◌, ℕ, List, Option, Some, None, Result, Ok, Err, IfOk, true, refl, ap, ◌∙◌, arith}
use Rattle.std.proofs.lemmas.Bool.{lt-ltb}
use Rattle.std.specs.Option.{option_map}
use Rattle.wamp_ids.specs.Numbers.{IsId}
use Rattle.message_tree.specs.Data.{Data, null, flag, whole, text, bytes, list, dict, uncarried, Entries}
use Rattle.message_tree.specs.Meaning.{meaning}
use Rattle.message_tree.specs.declared.message.Message.{Message}
use Rattle.wamp_messages.specs.Options.{publish_options_of, subscribe_options_of}
use Rattle.wamp_messages.specs.Arguments.{Arguments, is_args, is_kwargs, is_args_if_any, is_kwargs_if_any, last_items}
use Rattle.session.specs.FromClient.{said_of, id_of, args_of, kwargs_of, arguments_of, with_args, with_both}
use Rattle.session.specs.FromClient as reading
use Rattle.session.specs.ToClient.{number, triple}
use Rattle.wamp_messages.specs.declared.said.Said.{Said}
use Rattle.wamp_messages.specs.declared.said.Said.TheVariants.{Hello, Abort, Goodbye, Publish, Subscribe, Unsubscribe}
use Rattle.client_messages.specs.declared.fault.Fault.{Fault}
use Rattle.client_messages.specs.ToBroker.{hello, ending, publish, subscribe}

pub id_of-number : (n : ℕ) → IsId n → id_of (number n) ≡ Some n
id_of-number n h = rw (lt-ltb 0 n (omega arith), lt-ltb n 9007199254740993 (omega arith)) refl

args_of-args : (d : Data) → is_args d ≡ true → args_of d ≡ Some d
args_of-args null h = absurd (cc)
args_of-args (flag b) h = absurd (cc)
args_of-args (whole z) h = absurd (cc)
args_of-args (text s) h = absurd (cc)
args_of-args (bytes b) h = absurd (cc)
args_of-args (list ds) h = refl
args_of-args (dict es) h = absurd (cc)
args_of-args uncarried h = refl

kwargs_of-kwargs : (d : Data) → is_kwargs d ≡ true → kwargs_of d ≡ Some d
kwargs_of-kwargs null h = absurd (cc)
kwargs_of-kwargs (flag b) h = absurd (cc)
kwargs_of-kwargs (whole z) h = absurd (cc)
kwargs_of-kwargs (text s) h = absurd (cc)
kwargs_of-kwargs (bytes b) h = absurd (cc)
kwargs_of-kwargs (list ds) h = absurd (cc)
kwargs_of-kwargs (dict es) h = refl
kwargs_of-kwargs uncarried h = refl

-- Arguments, and ArgumentsKw behind them alone
pub arguments_of-last_items : (a k : Option Data) → is_args_if_any a ≡ true → is_kwargs_if_any k ≡ true → (a ≡ None → k ≡ None)
    → arguments_of (last_items a k) ≡ Some (record { args = a; kwargs = k })
arguments_of-last_items None None ha hk alone = refl
arguments_of-last_items None (Some k) ha hk alone = let none : Some k ≡ None = alone refl in absurd (cc)
arguments_of-last_items (Some a) None ha hk alone = ap with_args (args_of-args a ha)
arguments_of-last_items (Some a) (Some k) ha hk alone = rw (args_of-args a ha, kwargs_of-kwargs k hk) refl

pub said_of-publish : (request : ℕ) (options : Entries) (topic : List ℕ) (a : Arguments) → IsId request
    → is_args_if_any a.args ≡ true → is_kwargs_if_any a.kwargs ≡ true → (a.args ≡ None → a.kwargs ≡ None)
    → said_of (publish request options topic a) ≡ Some (Publish (record { request = request; options = publish_options_of options; topic = topic; args = a }))
unfolding said_of publish reading.publish
said_of-publish request options topic a id ha hk alone =
    rw (id_of-number request id) (ap (option_map (λ args. Publish (record { request = request; options = publish_options_of options; topic = topic; args = args }))) (arguments_of-last_items a.args a.kwargs ha hk alone))

pub said_of-subscribe : (request : ℕ) (options : Entries) (topic : List ℕ) → IsId request
    → said_of (subscribe request options topic) ≡ Some (Subscribe request (subscribe_options_of options) topic)
unfolding said_of subscribe reading.subscribe
said_of-subscribe request options topic id = rw (id_of-number request id) refl

pub said_of-unsubscribe : (request subscription : ℕ) → IsId request → IsId subscription
    → said_of (triple 34 request subscription) ≡ Some (Unsubscribe request subscription)
unfolding said_of reading.unsubscribe
said_of-unsubscribe request subscription id other = rw (id_of-number request id, id_of-number subscription other) refl

pub said_of-hello : (realm : List ℕ) (authid : Option (List ℕ)) → said_of (hello realm authid) ≡ Some (Hello realm authid)
unfolding said_of hello reading.hello
said_of-hello realm None = refl
said_of-hello realm (Some authid) = refl

pub said_of-abort : (reason : List ℕ) → said_of (ending 3 reason) ≡ Some Abort
unfolding said_of ending reading.ending
said_of-abort reason = refl

pub said_of-goodbye : (reason : List ℕ) → said_of (ending 6 reason) ≡ Some Goodbye
unfolding said_of ending reading.ending
said_of-goodbye reason = refl

-- what is read in a message by what it is
pub reads : (r : Result Message Fault) (d : Data) (s : Said) → IfOk r (λ m. meaning m ≡ d) → said_of d ≡ Some s → IfOk r (λ m. said_of (meaning m) ≡ Some s)
reads (Ok m) d s is h = ap said_of is ∙ h
reads (Err f) d s is h = tt
