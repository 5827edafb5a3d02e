use Rattle.std.proofs.Common.{◌≡◌, pos, ◌++◌, refl, ◌∙◌, rules}
use Rattle.message_tree.specs.Data as tree
use Rattle.msgpack_codec.specs.Values.{signed_from, text_from}
use Rattle.msgpack_codec.specs.body.Decoder.{leaf_at}
use Rattle.msgpack_codec.proofs.Judgements.{judged-is}
use Rattle.msgpack_codec.proofs.NestJudgements.{sized-before}
use Rattle.msgpack_codec.proofs.passing.leaf.Goals as goal

pub returns-in-Null-clause-ok : goal.returns-in-Null-clause-ok
unfolding leaf_at
returns-in-Null-clause-ok c = (tree.null, search rules, c.no_text.ensures.carriage, c.no_text.ensures.text)

pub returns-in-Null-clause-shortest : goal.returns-in-Null-clause-shortest
unfolding leaf_at
returns-in-Null-clause-shortest c = λ o begins.
    judged-is _ c.args.all.now _ c.no_text.result.is_shortest tree.null (search rules)
    (λ front parts.
    let ends : c.args.all.now ≡ front ++ c.args.octets.now = rw c.no_text.ensures.rest at parts in
    let said = rw (c.before-in-Null.ensures front ends) at c.is_one.ensures in
    rw c.no_text.ensures.shortest (λ t. (refl, said.0 t), λ h e. said.1 e))

pub returns-in-Flag-clause-ok : goal.returns-in-Flag-clause-ok
unfolding leaf_at
returns-in-Flag-clause-ok c = (tree.flag c.in-Flag.flag, search rules, c.no_text-in-Flag.ensures.carriage, c.no_text-in-Flag.ensures.text)

pub returns-in-Flag-clause-shortest : goal.returns-in-Flag-clause-shortest
unfolding leaf_at
returns-in-Flag-clause-shortest c = λ o begins.
    judged-is _ c.args.all.now _ c.no_text-in-Flag.result.is_shortest (tree.flag c.in-Flag.flag) (search rules)
    (λ front parts.
    let ends : c.args.all.now ≡ front ++ c.args.octets.now = rw c.no_text-in-Flag.ensures.rest at parts in
    rw c.no_text-in-Flag.ensures.shortest (rw (c.before-in-Flag.ensures front ends) at c.is_flag-is_shortest.ensures))

pub returns-in-Whole-clause-ok : goal.returns-in-Whole-clause-ok
unfolding leaf_at
returns-in-Whole-clause-ok c = (tree.whole c.in-Whole.number, search rules, search rules, c.number_seen.ensures.text)

pub returns-in_ok-number-in-Unsigned-clause-ok : goal.returns-in_ok-number-in-Unsigned-clause-ok
unfolding leaf_at
returns-in_ok-number-in-Unsigned-clause-ok c = (tree.whole (pos c.in_ok-number-in-Unsigned.number), search rules, search rules, c.number_seen-in-Unsigned.ensures.text)

pub returns-in_ok-number-in-Signed-clause-ok : goal.returns-in_ok-number-in-Signed-clause-ok
unfolding leaf_at
returns-in_ok-number-in-Signed-clause-ok c =
    (tree.whole (signed_from c.in-Signed.width c.in_ok-number-in-Signed.number), search rules, search rules, c.number_seen-in-Signed.ensures.text)

pub returns-in_ok-found-in-Bytes-clause-ok : goal.returns-in_ok-found-in-Bytes-clause-ok
unfolding leaf_at
returns-in_ok-found-in-Bytes-clause-ok c = (tree.bytes c.in_ok-found-in-Bytes.found.now, search rules, c.no_text-in-Bytes.ensures.carriage, c.no_text-in-Bytes.ensures.text)

pub returns-in_ok-found-in-Bytes-clause-shortest : goal.returns-in_ok-found-in-Bytes-clause-shortest
unfolding leaf_at
returns-in_ok-found-in-Bytes-clause-shortest c = λ o begins.
    let read = c.in_ok-found-in-Bytes in
    judged-is _ c.args.all.now _ c.no_text-in-Bytes.result.is_shortest (tree.bytes read.found.now) (search rules)
    (λ front parts.
    let ends : c.args.all.now ≡ front ++ read.rest.now = rw c.no_text-in-Bytes.ensures.rest at parts in
    let head = sized-before c.in-Bytes.size o c.args.all.now c.args.octets.now read.found.now read.rest.now front read.ensures.ok begins ends in
    let is = c.before-in-Bytes.ensures front ends in
    rw c.no_text-in-Bytes.ensures.shortest (rw is at (c.is_least_bytes-is_shortest.ensures head.0 (is ∙ head.1))))

pub returns-in_ok-found-in-Text-clause-shortest : goal.returns-in_ok-found-in-Text-clause-shortest
unfolding leaf_at
returns-in_ok-found-in-Text-clause-shortest c = λ o begins.
    let read = c.in_ok-found-in-Text in
    judged-is _ c.args.all.now _ c.text.result.is_shortest (text_from read.found.now) (search rules)
    (λ front parts.
    let ends : c.args.all.now ≡ front ++ read.rest.now = rw c.text.ensures.rest at parts in
    let head = sized-before c.in-Text.size o c.args.all.now c.args.octets.now read.found.now read.rest.now front read.ensures.ok begins ends in
    let is = c.before-in-Text.ensures front ends in
    rw is at (c.text.ensures.shortest head.0 (is ∙ head.1)))

pub returns-in_ok-_found-in-Foreign-clause-ok : goal.returns-in_ok-_found-in-Foreign-clause-ok
unfolding leaf_at
returns-in_ok-_found-in-Foreign-clause-ok c = (tree.uncarried, search rules, c.no_text-in-Foreign.ensures.carriage, c.no_text-in-Foreign.ensures.text)

pub returns-in_ok-_number-in-Float-clause-ok : goal.returns-in_ok-_number-in-Float-clause-ok
unfolding leaf_at
returns-in_ok-_number-in-Float-clause-ok c = (tree.uncarried, search rules, c.no_text-in-Float.ensures.carriage, c.no_text-in-Float.ensures.text)
