use Rattle.std.proofs.Common.{◌≡◌, ℕ, List, [], ◌++◌, true, false, refl, ap, ◌∙◌, append_assoc, append-nil, rules}
use Rattle.std.specs.Prelude.{codes}
use Rattle.message_tree.specs.Data.{text, no_entries, entry}
use Rattle.session.specs.body.SerializedParts.{key_text, entries_from}
use Rattle.session.specs.Serializer.{serialized}
use Rattle.session.specs.ToClient.{number}
use Rattle.session.specs.body.EventDetails.{publisher_entries}
use Rattle.session.proofs.wire.event_details.put_publisher.Goals as goal

joined : (old k n l a m o : List ℕ) → (((((old ++ k) ++ n) ++ l) ++ a) ++ m) ++ o ≡ old ++ (k ++ (n ++ (l ++ (a ++ (m ++ (o ++ []))))))
joined old k n l a m o = simp (append_assoc, append-nil)

pub returns-clause-ok : goal.returns-clause-ok
returns-clause-ok c =
    let s = c.args.serializer in
    let p = c.args.made.now in
    let old = c.args.out.now.since in
    let k = key_text s false (codes "publisher") in
    let l = key_text s true (codes "publisher_authid") in
    let m = key_text s true (codes "publisher_authrole") in
    let n = serialized s (number c.value.result) in
    let a = serialized s (text c.as_str.result.now) in
    let o = serialized s (text c.as_str-2.result.now) in
    let disclosed : p.disclosed ≡ true = search rules in
    let written : c.put_text-2.new.out.since ≡ (((((old ++ k) ++ n) ++ l) ++ a) ++ m) ++ o =
    c.in_ok-put_text-2.ensures.ok ∙ ap (λ x. x ++ o) (c.in_ok-put_key-3.ensures.ok ∙ ap (λ x. x ++ m) (c.in_ok-put_text.ensures.ok ∙ ap (λ x. x ++ a) (c.in_ok-put_key-2.ensures.ok ∙ ap (λ x. x ++ l) (c.in_ok-put_number.ensures.ok ∙ ap (λ x. x ++ n) c.in_ok-put_key.ensures.ok)))) in
    let full = λ (n : ℕ) (a o : List ℕ). old ++ entries_from s false (entry (codes "publisher") (number n) (entry (codes "publisher_authid") (text a) (entry (codes "publisher_authrole") (text o) no_entries))) in
    let named : full c.value.result c.as_str.result.now c.as_str-2.result.now ≡ full p.publisher.id p.publisher.authid p.publisher.authrole = rw (c.value.ensures.number, c.as_str.ensures, c.as_str-2.ensures, c.value-2.ensures, c.value-3.ensures) refl in
    let chosen : full p.publisher.id p.publisher.authid p.publisher.authrole ≡ old ++ entries_from s false (publisher_entries p) = rw disclosed refl in
    written ∙ joined old k n l a m o ∙ named ∙ chosen
