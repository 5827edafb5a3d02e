use Rattle.std.proofs.Common.{◌≡◌, ◌-◌, ◌+◌, ℕ, suc, List, [], ◌∷◌, ◌++◌, Err, true≢false, sym, ap, ◌∙◌, subst, arith}
use Rattle.std.proofs.lemmas.Result.{IfOk-weaker}
use Rattle.json_codec.specs.Encoder.{json_text}
use Rattle.message_tree.specs.Data.{Data, text, is_carried}
use Rattle.msgpack_codec.specs.body.Passing.{written_at}
use Rattle.msgpack_to_json.specs.body.Members.{ItemsAt, PairsAt}
use Rattle.msgpack_to_json.specs.declared.fault.Fault.TheVariants.{Malformed}
use Rattle.msgpack_to_json.proofs.Steps.{first-item, item-text, first-pair, pair-text}
use Rattle.msgpack_to_json.proofs.Tokens.{no-token-passed, list-written, dict-written, list-without-room, dict-without-room, leaf-is, is-leaf}
use Rattle.msgpack_to_json.proofs.ShortTexts.{text-is}
use Rattle.msgpack_to_json.proofs.json.+writing.Goals as goal

pub write_items-returns-in-Err-clause-fault : goal.write_items-returns-in-Err-clause-fault
write_items-returns-in-Err-clause-fault t c = λ is ds after at.
    let i = c.loop.invariant.left ds after at in
    let n = c.args.count - (c.loop.counter + 1) in
    let some : suc n ≡ c.args.count - c.loop.counter = omega (arith, c.loop-test.true) in
    let f = first-item c.args.room n (c.args.count - c.loop.counter) c.loop.rest.now after i.0 some i.1 in
    c.write_value.ensures.fault (c.in-Err.is ∙ is) f.d f.middle f.read f.carried

pub write_items-loop-preserved : goal.write_items-loop-preserved
write_items-loop-preserved t c = record {
  before = c.write_value.ensures.before ∙ (c.separate.ensures.before ∙ c.loop.invariant.before);
  left = λ ds after at.
      let i = c.loop.invariant.left ds after at in
      let n = c.args.count - (c.loop.counter + 1) in
      let some : suc n ≡ c.args.count - c.loop.counter = omega (arith, c.loop-test.true) in
      let f = first-item c.args.room n (c.args.count - c.loop.counter) c.loop.rest.now after i.0 some i.1 in
      let w = c.in-Ok.ensures.ok f.d f.middle f.read f.carried in (
        f.more,
        subst (λ (r : List ℕ). ItemsAt c.args.room n r after f.more) (sym w.0) f.rest,
        item-text c.loop.out.since _ _ c.loop.later f.d f.more i.0 f.is i.2 (w.1 ∙ ap (λ (o : List ℕ). o ++ json_text f.d) c.in_ok-separate.ensures.ok),
      );
}

pub write_pairs-returns-in-Err-clause-fault : goal.write_pairs-returns-in-Err-clause-fault
write_pairs-returns-in-Err-clause-fault t c = λ is ps after at.
    let i = c.loop.invariant.left ps after at in
    let n = c.args.count - (c.loop.counter + 1) in
    let some : suc n ≡ c.args.count - c.loop.counter = omega (arith, c.loop-test.true) in
    let f = first-pair c.args.room n (c.args.count - c.loop.counter) c.loop.rest.now after i.0 some i.1 in
    c.write_key.ensures.fault (c.in-Err.is ∙ is) c.args.room f.key f.middle f.read_key

pub write_any_value-returns-in-Err-clause-fault : goal.write_any_value-returns-in-Err-clause-fault
write_any_value-returns-in-Err-clause-fault t c = λ is d after read carried. no-token-passed c.args.room c.args.octets.now c.in-Err.ensures.err d after read

pub write_pairs-returns-in-Err-write_value-clause-fault : goal.write_pairs-returns-in-Err-write_value-clause-fault
write_pairs-returns-in-Err-write_value-clause-fault t c = λ is ps after at.
    let i = c.loop.invariant.left ps after at in
    let n = c.args.count - (c.loop.counter + 1) in
    let some : suc n ≡ c.args.count - c.loop.counter = omega (arith, c.loop-test.true) in
    let f = first-pair c.args.room n (c.args.count - c.loop.counter) c.loop.rest.now after i.0 some i.1 in
    let key = c.in-Ok.ensures.ok c.args.room f.key f.middle f.read_key in
    c.write_value.ensures.fault (c.in-Err-write_value.is ∙ is) f.d f.behind (ap (written_at c.args.room) key.0 ∙ f.read) f.carried

pub write_pairs-loop-preserved : goal.write_pairs-loop-preserved
write_pairs-loop-preserved t c = record {
  before = c.write_value.ensures.before ∙ (c.write_key.ensures.before ∙ (c.separate.ensures.before ∙ c.loop.invariant.before));
  left = λ ps after at.
      let i = c.loop.invariant.left ps after at in
      let n = c.args.count - (c.loop.counter + 1) in
      let some : suc n ≡ c.args.count - c.loop.counter = omega (arith, c.loop-test.true) in
      let f = first-pair c.args.room n (c.args.count - c.loop.counter) c.loop.rest.now after i.0 some i.1 in
      let key = c.in-Ok.ensures.ok c.args.room f.key f.middle f.read_key in
      let w = c.in-Ok-write_value.ensures.ok f.d f.behind (ap (written_at c.args.room) key.0 ∙ f.read) f.carried in (
        f.more,
        subst (λ (r : List ℕ). PairsAt c.args.room n r after f.more) (sym w.0) f.rest,
        pair-text c.loop.out.since _ c.write_key.new.out.since c.write_value.new.out.since c.loop.later f.key f.d f.more i.0 f.is i.2
            (key.1 ∙ ap (λ (o : List ℕ). o ++ (json_text (text f.key) ++ 58 ∷ [])) c.in_ok-separate.ensures.ok) w.1,
      );
}

pub write_any_value-returns-in-Some-clause-ok : goal.write_any_value-returns-in-Some-clause-ok
write_any_value-returns-in-Some-clause-ok t c = IfOk-weaker c.write_items.result _ _ (λ rest is d after read carried.
    let l = list-written c.args.room c.in-Some.room c.in-List.count c.in-Ok.found.0 c.args.octets.now c.in-Ok.found.1.now c.in-Some.ensures.0 c.in-Some.ensures.1 c.in-List.is c.in-Ok.ensures.ok d after read carried in
    let w = is l.0 after l.1 in
    (w.0, w.1 ∙ ap (λ (x : Data). c.args.out.now.since ++ json_text x) (sym l.2)))
    c.write_items.ensures.ok

pub write_any_value-returns-in-Some-clause-fault : goal.write_any_value-returns-in-Some-clause-fault
write_any_value-returns-in-Some-clause-fault t c = λ is d after read carried.
    let l = list-written c.args.room c.in-Some.room c.in-List.count c.in-Ok.found.0 c.args.octets.now c.in-Ok.found.1.now c.in-Some.ensures.0 c.in-Some.ensures.1 c.in-List.is c.in-Ok.ensures.ok d after read carried in
    c.write_items.ensures.fault is l.0 after l.1

pub write_any_value-returns-in-None-clause-fault : goal.write_any_value-returns-in-None-clause-fault
write_any_value-returns-in-None-clause-fault t c = λ is d after read carried.
    list-without-room c.args.room c.in-List.count c.in-Ok.found.0 c.args.octets.now c.in-Ok.found.1.now c.in-None.ensures c.in-List.is c.in-Ok.ensures.ok d after read

pub write_any_value-returns-in-Some-checked_sub-clause-ok : goal.write_any_value-returns-in-Some-checked_sub-clause-ok
write_any_value-returns-in-Some-checked_sub-clause-ok t c = IfOk-weaker c.write_pairs.result _ _ (λ rest is d after read carried.
    let p = dict-written c.args.room c.in-Some-checked_sub.room c.in-Dict.count c.in-Ok.found.0 c.args.octets.now c.in-Ok.found.1.now c.in-Some-checked_sub.ensures.0 c.in-Some-checked_sub.ensures.1 c.in-Dict.is c.in-Ok.ensures.ok d after read carried in
    let w = is p.0 after p.1 in
    (w.0, w.1 ∙ ap (λ (x : Data). c.args.out.now.since ++ json_text x) (sym p.2)))
    c.write_pairs.ensures.ok

pub write_any_value-returns-in-Some-checked_sub-clause-fault : goal.write_any_value-returns-in-Some-checked_sub-clause-fault
write_any_value-returns-in-Some-checked_sub-clause-fault t c = λ is d after read carried.
    let p = dict-written c.args.room c.in-Some-checked_sub.room c.in-Dict.count c.in-Ok.found.0 c.args.octets.now c.in-Ok.found.1.now c.in-Some-checked_sub.ensures.0 c.in-Some-checked_sub.ensures.1 c.in-Dict.is c.in-Ok.ensures.ok d after read carried in
    c.write_pairs.ensures.fault is p.0 after p.1

pub write_any_value-returns-in-None-checked_sub-clause-fault : goal.write_any_value-returns-in-None-checked_sub-clause-fault
write_any_value-returns-in-None-checked_sub-clause-fault t c = λ is d after read carried.
    dict-without-room c.args.room c.in-Dict.count c.in-Ok.found.0 c.args.octets.now c.in-Ok.found.1.now c.in-None-checked_sub.ensures c.in-Dict.is c.in-Ok.ensures.ok d after read

pub write_any_value-returns-in-Ok-write_leaf : goal.write_any_value-returns-in-Ok-write_leaf
write_any_value-returns-in-Ok-write_leaf t c = record {
  ok = λ d after read carried.
      let l = leaf-is c.args.room c.in-Ok.found.0 c.args.octets.now c.in-Ok.found.1.now c.in-Ok-write_leaf.ensures.leaf c.in-Ok.ensures.ok d after read in
      (l.1, c.in-Ok-write_leaf.ensures.ok ∙ ap (λ (x : Data). c.args.out.now.since ++ json_text x) l.0);
  fault = λ is. absurd cc;
  before = c.write_leaf.ensures.before;
}

pub write_any_value-returns-in-Err-write_leaf : goal.write_any_value-returns-in-Err-write_leaf
write_any_value-returns-in-Err-write_leaf t c = record {
  ok = tt;
  fault = λ is d after read carried.
      let leaf = is-leaf c.in-Ok.found.0 c.in_default.not-List c.in_default.not-Dict in
      let l = leaf-is c.args.room c.in-Ok.found.0 c.args.octets.now c.in-Ok.found.1.now leaf c.in-Ok.ensures.ok d after read in
      let bad : c.in-Err-write_leaf.fault ≡ Malformed = cc in
      true≢false (sym carried ∙ (ap is_carried (sym l.0) ∙ c.write_leaf.ensures.fault (c.in-Err-write_leaf.is ∙ ap Err bad)));
  before = c.write_leaf.ensures.before;
}

pub write_value-returns-in_ok-encode_text_into-in-Some-clause-ok : goal.write_value-returns-in_ok-encode_text_into-in-Some-clause-ok
write_value-returns-in_ok-encode_text_into-in-Some-clause-ok t c = λ d after read carried.
    let k = text-is c.args.room c.args.octets.now c.in-Some.text.now c.in-Some.rest.now c.in-Some.ensures.spelled c.in-Some.ensures.utf8 c.in-Some.ensures.few d after read in
    (k.1, c.in_ok-encode_text_into-in-Some.ensures.ok ∙ ap (λ (x : Data). c.args.out.now.since ++ json_text x) k.0)
