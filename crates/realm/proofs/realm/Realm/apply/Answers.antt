use Rattle.std.proofs.Common.{◌≡◌, ◌+◌, ◌≤◌, true, [], ◌∷◌, ◌++◌, map, length, vec_capacity, sym, ap, subst, ◌∙◌, arith, length-append}
use Rattle.realm.specs.History.{begun, ◌▷◌}
use Rattle.realm.specs.Sessions.{may_come, IsHistory}
use Rattle.realm.specs.body.Refinement.{Agrees}
use Rattle.realm.specs.body.Apply.{history_after}
use Rattle.realm.proofs.EmptyHistory.{history-next, may-turn}
use Rattle.realm.proofs.HoldersAreLive.{are-held}
use Rattle.realm.proofs.RoomForCuts.{room-left}
use Rattle.realm.proofs.realm.Realm.apply.Goals as goal

pub answer-requires : goal.answer-requires
answer-requires c =
    let come = rw (← c.self.view_is) at c.requires in
    record {
      turn = may-turn _ c.self.inside.state c.args.entry c.self.invariant.0 come;
      held = are-held _ c.self.inside.state c.self.invariant.0;
    }

pub push_reserved-requires : goal.push_reserved-requires
push_reserved-requires c =
    let come = rw (← c.self.view_is) at c.requires in
    let h = history_after (begun c.self.inside.state.grants) (map (λ s. s.value) c.self.inside.past.items) in
    let turned = c.in_ok-given.ensures.ok h c.self.invariant.0 come in
    let p = c.self.inside.past in
    let q = c.make_room.new.past in
    let s = c.self.inside.state in
    let t = c.answer.new.state in
    let same : length q.items ≡ length p.items = ap length c.make_room.ensures.items in
    let live : c.len.result ≡ length s.sessions = c.len.ensures in
    let left : length p.items + 1 + length t.sessions ≤ vec_capacity q =
    room-left c.args.entry (length p.items) (length s.sessions) (length t.sessions) (vec_capacity p) (vec_capacity q) c.self.invariant.1 c.make_room.ensures.more
    (λ loud. let made = c.in_ok-make_room.ensures.room loud in omega arith) turned.grown turned.shrunk in
    omega arith

pub invariant_of-self-2 : goal.invariant_of-self-2
invariant_of-self-2 c =
    let h = history_after (begun c.self.inside.state.grants) (map (λ s. s.value) c.self.inside.past.items) in
    let come : may_come h c.args.entry ≡ true = rw (← c.self.view_is) at c.requires in
    let turned = c.in_ok-given.ensures.ok h c.self.invariant.0 come in
    let grants : c.answer.new.state.grants ≡ c.self.inside.state.grants = turned.agrees.grants ∙ sym c.self.invariant.0.grants in
    let items = c.push_reserved.ensures.items ∙ ap (λ xs. xs ++ c.of-seen.result ∷ []) c.make_room.ensures.items in
    let is = history-next c.self.inside.state.grants c.answer.new.state.grants c.self.inside.past.items c.push_reserved.new.self.items c.of-seen.result c.args.entry grants items c.of-seen.ensures in
    let p = c.self.inside.past in
    let q = c.make_room.new.past in
    let s = c.self.inside.state in
    let t = c.answer.new.state in
    let same : length q.items ≡ length p.items = ap length c.make_room.ensures.items in
    let live : c.len.result ≡ length s.sessions = c.len.ensures in
    let left : length p.items + 1 + length t.sessions ≤ vec_capacity q =
    room-left c.args.entry (length p.items) (length s.sessions) (length t.sessions) (vec_capacity p) (vec_capacity q) c.self.invariant.1 c.make_room.ensures.more
    (λ loud. let made = c.in_ok-make_room.ensures.room loud in omega arith) turned.grown turned.shrunk in
    let long : length c.push_reserved.new.self.items ≡ length q.items + 1 = ap length c.push_reserved.ensures.items ∙ length-append q.items (c.of-seen.result ∷ []) in
    let room : vec_capacity c.push_reserved.new.self ≡ vec_capacity q = c.push_reserved.ensures.capacity in
    (subst (λ k. Agrees k c.answer.new.state) (sym is) turned.agrees, omega arith)

pub returns-clause-history : goal.returns-clause-history
returns-clause-history c =
    let h = history_after (begun c.self.inside.state.grants) (map (λ s. s.value) c.self.inside.past.items) in
    let come : may_come h c.args.entry ≡ true = rw (← c.self.view_is) at c.requires in
    let turned = c.in_ok-given.ensures.ok h c.self.invariant.0 come in
    let grants : c.answer.new.state.grants ≡ c.self.inside.state.grants = turned.agrees.grants ∙ sym c.self.invariant.0.grants in
    let items = c.push_reserved.ensures.items ∙ ap (λ xs. xs ++ c.of-seen.result ∷ []) c.make_room.ensures.items in
    history-next c.self.inside.state.grants c.answer.new.state.grants c.self.inside.past.items c.push_reserved.new.self.items c.of-seen.result c.args.entry grants items c.of-seen.ensures
    ∙ ap (λ k. k ▷ c.args.entry) c.self.view_is

pub returns-clause-whole : goal.returns-clause-whole
returns-clause-whole c =
    let h = history_after (begun c.self.inside.state.grants) (map (λ s. s.value) c.self.inside.past.items) in
    let come : may_come h c.args.entry ≡ true = rw (← c.self.view_is) at c.requires in
    let turned = c.in_ok-given.ensures.ok h c.self.invariant.0 come in
    let grants : c.answer.new.state.grants ≡ c.self.inside.state.grants = turned.agrees.grants ∙ sym c.self.invariant.0.grants in
    let items = c.push_reserved.ensures.items ∙ ap (λ xs. xs ++ c.of-seen.result ∷ []) c.make_room.ensures.items in
    let is = history-next c.self.inside.state.grants c.answer.new.state.grants c.self.inside.past.items c.push_reserved.new.self.items c.of-seen.result c.args.entry grants items c.of-seen.ensures in
    subst IsHistory (sym is) turned.agrees.is_history
