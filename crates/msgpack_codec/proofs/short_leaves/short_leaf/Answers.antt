use Rattle.std.proofs.Common.{◌∷◌, sym, ap, ◌∙◌, subst, true, false, suc, get_or, ◌<◌}
use Rattle.message_tree.specs.Data as tree
use Rattle.msgpack_codec.specs.ShortLeaves.{BeginsPlainly}
use Rattle.msgpack_codec.proofs.ShortLeaves.{small-begins, great-begins}
use Rattle.msgpack_codec.proofs.short_leaves.short_leaf.Goals as goal

pub returns-then-first-lt128 : goal.returns-then-first-lt128
returns-then-first-lt128 c =
    let rest = c.in-Some.behind.now in
    subst (λ o. BeginsPlainly o rest) (sym c.in-Some.ensures.cases.0) (small-begins c.in-Some.first.now rest c.if-first-lt128.true)

pub returns-in-192 : goal.returns-in-192
returns-in-192 c = record {
  meant = tree.null;
  plain = tt;
  parts = c.in-Some.ensures.cases.0 ∙ ap (λ n. n ∷ c.in-Some.behind.now) c.in-192.is;
}

pub returns-in-194 : goal.returns-in-194
returns-in-194 c = record {
  meant = tree.flag false;
  plain = tt;
  parts = c.in-Some.ensures.cases.0 ∙ ap (λ n. n ∷ c.in-Some.behind.now) c.in-194.is;
}

pub returns-in-195 : goal.returns-in-195
returns-in-195 c = record {
  meant = tree.flag true;
  plain = tt;
  parts = c.in-Some.ensures.cases.0 ∙ ap (λ n. n ∷ c.in-Some.behind.now) c.in-195.is;
}

pub returns-in-Some-number_in_four : goal.returns-in-Some-number_in_four
returns-in-Some-number_in_four c =
    let rest = c.in-Some-number_in_four.rest.now in
    let is = c.in-Some.ensures.cases.0 ∙ ap (λ n. n ∷ c.in-Some.behind.now) c.in-206.is in
    subst (λ o. BeginsPlainly o rest) (sym is)
    (great-begins c.in-Some.behind.now c.in-Some-number_in_four.number rest
    (λ i. subst (λ o. get_or o (suc i) 0 < 256) c.in-Some.ensures.cases.0 ((c.type_inv.octets (suc i)).fits)) c.if-number-ge-LEAST_IN_FOUR.true c.in-Some-number_in_four.ensures.bound c.in-Some-number_in_four.ensures.number)
