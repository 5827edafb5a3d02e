use Rattle.std.proofs.Common.{◌≡◌, ◌<◌, ◌≤◌, ◌++◌, List, [], ◌∷◌, ℕ, length, Ok, refl, arith, sym, ap, subst, ◌∙◌}
use Rattle.rawsocket.specs.Frames.{contents, spelled}
use Rattle.rawsocket.specs.declared.frame.Frame.{Frame}
use Rattle.rawsocket.specs.declared.frame.Kind.TheVariants.{Message}
use Rattle.session.specs.Opened.{pong, terms}
use Rattle.session.specs.FrameWalk.{AddsFor, verdict_of}
use Rattle.session.proofs.FrameWalkLemmas.{Walking, Walking-pong, Walking-ping, Walking-long, Walking-decided, Walking-ends, if_ok}
use Rattle.session.proofs.opening.verdict.judge.Goals.{in-Pong, in-Ping+in-Ok-true}
use Rattle.session.proofs.opening.verdict.judge.Goals as goal

none_left : (frames : List Frame) → length frames ≡ 0 → frames ≡ []
none_left [] e = refl
none_left (f ∷ fs) e = absurd (omega (arith, e))

pub returns-in-Ok-false : goal.returns-in-Ok-false
returns-in-Ok-false c =
    let here = subst (λ (xs : List Frame). Walking c.args.client.serializer c.args.client.limit c.args.realms.now c.args.fault (contents c.args.frames.items) (contents xs) c.args.out.now.items c.loop-frame.out.items) c.in-Some.ensures.items c.loop-frame.invariant in
    let long = c.in-Ok-false.ensures.long (ap Ok c.in-Ok-false.field-0-test) in
    record {
      decided = Walking-long c.args.client.serializer c.args.client.limit c.args.realms.now c.args.fault (contents c.args.frames.items) (contents c.pop_front.new.self.items) c.in-Some.frame.kind c.in-Some.frame.payload.items
          c.args.out.now.items c.loop-frame.out.items c.answer_ping.new.out.items c.in-Ping.is (subst (λ (p : List ℕ). c.args.client.limit < length p) c.deref.ensures.value long.0) long.1 here;
    }

pub returns-in-Message : goal.returns-in-Message
returns-in-Message c =
    let here = subst (λ (xs : List Frame). Walking c.args.client.serializer c.args.client.limit c.args.realms.now c.args.fault (contents c.args.frames.items) (contents xs) c.args.out.now.items c.loop-frame.out.items) c.in-Some.ensures.items c.loop-frame.invariant in
    record {
      decided = if_ok c.decide.result _ _
          (λ v adds. Walking-decided c.args.client.serializer c.args.client.limit c.args.realms.now c.args.fault (contents c.args.frames.items) (contents c.pop_front.new.self.items) c.in-Some.frame.kind c.in-Some.frame.payload.items
          c.args.out.now.items c.loop-frame.out.items c.decide.new.out.items (verdict_of v) c.in-Message.is
          (subst (λ (p : List ℕ). AddsFor (terms c.args.client.serializer c.args.client.limit c.args.realms.now) (record { kind = Message; payload = p } ∷ contents c.pop_front.new.self.items) c.loop-frame.out.items c.decide.new.out.items (verdict_of v)) c.deref-in-Message.ensures.value
          (subst (λ (xs : List Frame). AddsFor (terms c.args.client.serializer c.args.client.limit c.args.realms.now) (record { kind = Message; payload = c.deref-in-Message.result.now } ∷ contents xs) c.loop-frame.out.items c.decide.new.out.items (verdict_of v)) c.into_vec.ensures.items adds))
          here)
          c.decide.ensures.decided;
    }

pub loop-frame-preserved : goal.loop-frame-preserved
loop-frame-preserved c =
    let here = subst (λ (xs : List Frame). Walking c.args.client.serializer c.args.client.limit c.args.realms.now c.args.fault (contents c.args.frames.items) (contents xs) c.args.out.now.items c.loop-frame.out.items) c.in-Some.ensures.items c.loop-frame.invariant in
    elim c.match-frame.branch [
      | in-Pong w ↦ subst (λ o. Walking c.args.client.serializer c.args.client.limit c.args.realms.now c.args.fault (contents c.args.frames.items) (contents c.pop_front.new.self.items) c.args.out.now.items o.items) (sym w.out-is)
          (Walking-pong c.args.client.serializer c.args.client.limit c.args.realms.now c.args.fault (contents c.args.frames.items) (contents c.pop_front.new.self.items) c.in-Some.frame.kind c.in-Some.frame.payload.items
          c.args.out.now.items c.loop-frame.out.items w.in-Pong.is here)
      | in-Ping+in-Ok-true w ↦ let answered = w.in-Ok-true.ensures.answered (ap Ok w.in-Ok-true.field-0-test) in
          subst (λ o. Walking c.args.client.serializer c.args.client.limit c.args.realms.now c.args.fault (contents c.args.frames.items) (contents c.pop_front.new.self.items) c.args.out.now.items o.items) (sym w.out-is)
          (Walking-ping c.args.client.serializer c.args.client.limit c.args.realms.now c.args.fault (contents c.args.frames.items) (contents c.pop_front.new.self.items) c.in-Some.frame.kind c.in-Some.frame.payload.items
          c.args.out.now.items c.loop-frame.out.items w.answer_ping.new.out.items w.in-Ping.is (subst (λ (p : List ℕ). length p ≤ c.args.client.limit) w.deref.ensures.value answered.0)
          (subst (λ (p : List ℕ). w.answer_ping.new.out.items ≡ c.loop-frame.out.items ++ spelled (pong p)) w.deref.ensures.value answered.1) here)
    ]

pub returns : goal.returns
returns c =
    let none = subst (λ (xs : List Frame). Walking c.args.client.serializer c.args.client.limit c.args.realms.now c.args.fault (contents c.args.frames.items) (contents xs) c.args.out.now.items c.loop-frame.out.items) c.in_default.ensures.items c.loop-frame.invariant in
    record {
      decided = if_ok c.judge_rest.result _ _
          (λ v adds. Walking-ends c.args.client.serializer c.args.client.limit c.args.realms.now c.args.fault (contents c.args.frames.items) c.args.out.now.items c.loop-frame.out.items c.judge_rest.new.out.items (verdict_of v)
          (subst (λ (xs : List Frame). Walking c.args.client.serializer c.args.client.limit c.args.realms.now c.args.fault (contents c.args.frames.items) (contents xs) c.args.out.now.items c.loop-frame.out.items)
          (none_left c.pop_front.new.self.items (sym c.pop_front.new.self.ok.0 ∙ c.in_default.ensures.cases.1)) none) adds)
          c.judge_rest.ensures.decided;
    }
