use Rattle.std.proofs.Common.{◌≡◌, ◌≤◌, ◌+◌, true, false, length, refl, sym, ap, ◌∙◌, is_ok, length-set, arith}
use Rattle.std.proofs.lemmas.Bool.{both_ways, true≢false}
use Rattle.std.proofs.lemmas.List.Edits.{length-insert}
use Rattle.retained.specs.Store.{has_room, has_topic, set_topic}
use Rattle.retained.proofs.Insertion.{set-at, insert-at, has-at, none-at, room-full, room-has}
use Rattle.retained.proofs.StoreLemmas.{AreByTopic-set_topic}
use Rattle.retained.proofs.store.Store.keep.Goals as goal

pub invariant_of-self : goal.invariant_of-self
invariant_of-self c =
    let at = rw (c.deref.ensures.value, c.text.ensures.same, c.value.ensures) at c.in-Ok.ensures in
    let all = c.self.invariant.ordered in
    let set = set-at c.self.inside.publications.items c.in-Ok.place c.args.publication all at in
    record {
      ordered = rw (c.of.ensures, set) (AreByTopic-set_topic c.args.publication c.self.inside.publications.items all);
      few = rw length-set c.self.invariant.few;
    }

pub returns-in-Ok-clause-kept : goal.returns-in-Ok-clause-kept
returns-in-Ok-clause-kept c =
    let at = rw (c.deref.ensures.value, c.text.ensures.same, c.value.ensures) at c.in-Ok.ensures in
    rw c.of.ensures (set-at c.self.inside.publications.items c.in-Ok.place c.args.publication c.self.invariant.ordered at ∙ ap (set_topic c.args.publication) c.self.view_is)

pub returns-in-Ok-clause-full : goal.returns-in-Ok-clause-full
returns-in-Ok-clause-full c =
    let at = rw (c.deref.ensures.value, c.text.ensures.same, c.value.ensures) at c.in-Ok.ensures in
    let t = c.args.publication.topic in
    let has = has-at c.self.inside.publications.items c.in-Ok.place t at in
    let room : has_room c.args.self.now t ≡ true = ap (λ ps. has_room ps t) (sym c.self.view_is) ∙ room-has c.self.inside.publications.items t has in
    (λ e. absurd (true≢false (ap is_ok e)), λ e. absurd (both_ways (has_room c.args.self.now t) e room))

pub returns-then-len-ge-MOST_RETAINED-clause-full : goal.returns-then-len-ge-MOST_RETAINED-clause-full
returns-then-len-ge-MOST_RETAINED-clause-full c =
    let goes = rw (c.deref.ensures.value, c.text.ensures.same, c.value.ensures) at c.in-Err.ensures in
    let t = c.args.publication.topic in
    let full : 1000 ≤ length c.self.inside.publications.items = omega (arith, c.if-len-ge-MOST_RETAINED.true, c.len.ensures, c.deref.ensures.len) in
    let room : has_room c.args.self.now t ≡ false =
    ap (λ ps. has_room ps t) (sym c.self.view_is)
    ∙ room-full c.self.inside.publications.items t full
    ∙ none-at c.self.inside.publications.items c.in-Err.place t c.self.invariant.ordered goes in
    (λ _. room, λ _. refl)

pub returns-then-len-ge-MOST_RETAINED-clause-replaced : goal.returns-then-len-ge-MOST_RETAINED-clause-replaced
returns-then-len-ge-MOST_RETAINED-clause-replaced c =
    let goes = rw (c.deref.ensures.value, c.text.ensures.same, c.value.ensures) at c.in-Err.ensures in
    let t = c.args.publication.topic in
    let none : has_topic t c.args.self.now ≡ false = ap (has_topic t) (sym c.self.view_is) ∙ none-at c.self.inside.publications.items c.in-Err.place t c.self.invariant.ordered goes in
    λ has. sym none ∙ has

pub returns-in_err-insert-in-Err-clause-replaced : goal.returns-in_err-insert-in-Err-clause-replaced
returns-in_err-insert-in-Err-clause-replaced c =
    let goes = rw (c.deref.ensures.value, c.text.ensures.same, c.value.ensures) at c.in-Err.ensures in
    let t = c.args.publication.topic in
    let none : has_topic t c.args.self.now ≡ false = ap (has_topic t) (sym c.self.view_is) ∙ none-at c.self.inside.publications.items c.in-Err.place t c.self.invariant.ordered goes in
    λ has. absurd (both_ways (has_topic t c.args.self.now) none has)

pub invariant_of-self-in-Err : goal.invariant_of-self-in-Err
invariant_of-self-in-Err c =
    let goes = rw (c.deref.ensures.value, c.text.ensures.same, c.value.ensures) at c.in-Err.ensures in
    let all = c.self.invariant.ordered in
    let items = rw c.of-in-Err.ensures at c.in_ok-insert-in-Err.ensures.items in
    let put = insert-at c.self.inside.publications.items c.in-Err.place c.args.publication all goes in
    let long : length c.insert.new.self.items ≡ length c.self.inside.publications.items + 1 = ap length items ∙ length-insert c.self.inside.publications.items c.in-Err.place c.args.publication goes.within in
    record {
      ordered = rw (items, put) (AreByTopic-set_topic c.args.publication c.self.inside.publications.items all);
      few = omega (arith, c.if-len-ge-MOST_RETAINED.false, c.len.ensures, c.deref.ensures.len);
    }

pub returns-in_ok-insert-in-Err-clause-kept : goal.returns-in_ok-insert-in-Err-clause-kept
returns-in_ok-insert-in-Err-clause-kept c =
    let goes = rw (c.deref.ensures.value, c.text.ensures.same, c.value.ensures) at c.in-Err.ensures in
    rw c.of-in-Err.ensures at c.in_ok-insert-in-Err.ensures.items
    ∙ insert-at c.self.inside.publications.items c.in-Err.place c.args.publication c.self.invariant.ordered goes
    ∙ ap (set_topic c.args.publication) c.self.view_is
