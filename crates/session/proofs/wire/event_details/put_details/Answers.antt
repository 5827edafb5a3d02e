use Rattle.std.proofs.Common.{◌≡◌, ℕ, List, ◌++◌, true, false, ◌||◌, sym, ap, ap₂, ◌∙◌, append_assoc, rules}
use Rattle.std.proofs.lemmas.Bool.{and_left, and_right, and_from}
use Rattle.message_tree.specs.Data.{dict}
use Rattle.session.specs.body.EventDetails.{publisher_entries, retained_entries, topic_entries}
use Rattle.session.specs.body.SerializedParts.{dict_opening, dict_closing, entries_from, entries_have_spelling}
use Rattle.session.specs.Serializer.{serialized}
use Rattle.session.specs.ToClient.{event_details}
use Rattle.session.proofs.DetailParts.{parts_of_details, spelling_of_details}
use Rattle.session.proofs.wire.event_details.put_details.Goals as goal

joined : (old b x y z e : List ℕ) → ((((old ++ b) ++ x) ++ y) ++ z) ++ e ≡ old ++ (b ++ ((x ++ (y ++ z)) ++ e))
joined old b x y z e = simp append_assoc

pub returns-in_err-put_publisher-clause-unspelled : goal.returns-in_err-put_publisher-clause-unspelled
returns-in_err-put_publisher-clause-unspelled c e =
    let p = c.args.made.now in
    let long : entries_have_spelling c.args.serializer (publisher_entries p) ≡ false = search rules in
    spelling_of_details c.args.serializer p c.args.with_topic c.args.retained ∙ and_left _ _ long

pub returns-in_err-put_topic-clause-unspelled : goal.returns-in_err-put_topic-clause-unspelled
returns-in_err-put_topic-clause-unspelled c e =
    let p = c.args.made.now in
    let long : entries_have_spelling c.args.serializer (topic_entries c.args.with_topic p.topic) ≡ false = search rules in
    spelling_of_details c.args.serializer p c.args.with_topic c.args.retained ∙ and_right _ _ long

pub returns-clause-spelled : goal.returns-clause-spelled
returns-clause-spelled c =
    let p = c.args.made.now in
    let s = c.args.serializer in
    let topic : entries_have_spelling s (topic_entries c.args.with_topic p.topic) ≡ true =
    ap (λ t. entries_have_spelling s (topic_entries c.args.with_topic t)) (sym c.text.ensures.same) ∙ c.in_ok-put_topic.ensures.spelled in
    spelling_of_details s p c.args.with_topic c.args.retained ∙ and_from _ _ c.in_ok-put_publisher.ensures.spelled topic

pub returns-clause-ok : goal.returns-clause-ok
returns-clause-ok c =
    let s = c.args.serializer in
    let p = c.args.made.now in
    let t = c.args.with_topic in
    let r = c.args.retained in
    let old = c.args.out.now.since in
    let b = dict_opening s c.count_of.result in
    let x = entries_from s false (publisher_entries p) in
    let y = entries_from s p.disclosed (retained_entries r) in
    let z = entries_from s c.either-later.result (topic_entries t c.text.result.now) in
    let e = dict_closing s in
    let written : c.close_dict.new.out.since ≡ ((((old ++ b) ++ x) ++ y) ++ z) ++ e =
    c.in_ok-close_dict.ensures.ok ∙ ap (λ o. o ++ e) (c.in_ok-put_topic.ensures.ok ∙ ap (λ o. o ++ z) (c.in_ok-put_retained.ensures.ok ∙ ap (λ o. o ++ y) (c.in_ok-put_publisher.ensures.ok ∙ ap (λ o. o ++ x) c.in_ok-open_dict.ensures.ok))) in
    let same_z : z ≡ entries_from s (p.disclosed || r) (topic_entries t p.topic) = ap₂ (λ later topic. entries_from s later (topic_entries t topic)) c.either-later.ensures c.text.ensures.same in
    let same : b ++ ((x ++ (y ++ z)) ++ e) ≡ serialized s (dict (event_details p t r)) =
    ap₂ (λ n z. dict_opening s n ++ ((x ++ (y ++ z)) ++ e)) c.count_of.ensures.count same_z ∙ sym (parts_of_details s p t r) in
    written ∙ joined old b x y z e ∙ ap (λ o. old ++ o) same
