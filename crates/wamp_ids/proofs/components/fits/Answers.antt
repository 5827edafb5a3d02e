use Rattle.std.proofs.Common.{sym, ◌∙◌, ◌+◌, take, drop}
use Rattle.wamp_ids.proofs.ComponentWalk.{one_many, many_one}
use Rattle.wamp_ids.proofs.components.fits.Goals as goal

pub returns-in-Some-dot_in : goal.returns-in-Some-dot_in
returns-in-Some-dot_in c =
    let p = c.loop-pattern.pattern.now in
    let t = c.loop-pattern.topic.now in
    let j = c.in-Some-dot_in.field-0 in
    sym (one_many p t p (take j t) (drop (j + 1) t) c.in-None.ensures.cut c.in-Some-dot_in.ensures.cut.1) ∙ c.loop-pattern.invariant

pub returns-in-None-dot_in-2 : goal.returns-in-None-dot_in-2
returns-in-None-dot_in-2 c =
    let p = c.loop-pattern.pattern.now in
    let t = c.loop-pattern.topic.now in
    let i = c.in-Some.i in
    sym (many_one p t (take i p) t (drop (i + 1) p) c.in-Some.ensures.cut.1 c.in-None-dot_in-2.ensures.cut) ∙ c.loop-pattern.invariant
