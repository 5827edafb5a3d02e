-- A run of steps.
use Rattle.std.proofs.Common.{◌≡◌, ℕ, ◌+◌, List, [], ◌∷◌, ◌++◌, length, take, refl, sym, ap, subst, ◌∙◌, append-nil, append_assoc, arith, length-append, Some}
use Rattle.std.specs.declared.option.Option.{Option}
use Rattle.std.specs.declared.result.Result.{Result}
use Rattle.std.specs.Prelude.{Ok, Err, IfOk, OnErr, Bool, true, false}
use Rattle.realm.specs.declared.fault.Fault.{Fault}
use Rattle.wamp_messages.specs.declared.item.Item.{Item}
use Rattle.realm.specs.declared.entry.Entry.{Entry}
use Rattle.realm_core.specs.declared.step.Step.{Step}
use Rattle.realm_core.specs.declared.step.Step.TheVariants.{Post, Accept, Lose, Push, Take, Leave}
use Rattle.realm_core.specs.declared.step.Stepped.{Stepped}
use Rattle.realm_core.specs.declared.step.Stepped.TheVariants.{Posted, Accepted, Dropped, Lost, Pushed, FoundFull, Took, Left, Idle}
use Rattle.realm.specs.Sessions.{conn_of, live}
use Rattle.realm.specs.declared.entry.Entry.TheVariants.{Cut}
use Rattle.std.proofs.Common.{inl, inr}
use Rattle.realm_core.specs.Worlds.{Course, Enters, EntersIfLive, Posts, Accepts, Loses, Pushes, Takes, Leaves, Moves, Reaches, IsReached}
use Rattle.realm_core.specs.body.Runs.{taker_of, taken_with, Advances}

-- what a step takes is what the log of takes grew by
took-enters : (w : Course) (e : Entry) (v : Course) → Enters w e v → v.taken ≡ w.taken
took-enters w e v enters = ap (λ (u : Course). u.taken) enters.after

took-if : (b : Bool) (w : Course) (e : Entry) (v : Course) → EntersIfLive b w e v → v.taken ≡ w.taken
took-if true w e v enters = took-enters w e v enters
took-if false w e v same = ap (λ (u : Course). u.taken) same

took-posts : (w : Course) (e : Entry) (stepped : Stepped) (v : Course) → Posts w e stepped v → v.taken ≡ w.taken
took-posts w e Posted v m = ap (λ (u : Course). u.taken) m.1
took-posts w e Idle v m = ap (λ (u : Course). u.taken) m.1
took-posts w e stepped v m = absurd m

took-accepts : (w : Course) (stepped : Stepped) (v : Course) → Accepts w stepped v → v.taken ≡ w.taken
took-accepts w Accepted v (e, rest, front, come, enters) = took-enters (record w { inbox = rest }) e v enters
took-accepts w Dropped v (e, rest, front, refused, after) = ap (λ (u : Course). u.taken) after
took-accepts w Idle v m = ap (λ (u : Course). u.taken) m.1
took-accepts w stepped v m = absurd m

took-loses : (w : Course) (word : Option ℕ) (stepped : Stepped) (v : Course) → Loses w word stepped v → v.taken ≡ w.taken
took-loses w word Lost v (e, rest, front, loses) = took-if (live w.history (conn_of e)) (record w { inbox = rest; lost = w.lost ++ e ∷ [] }) (Cut (conn_of e) word) v loses
took-loses w word Idle v m = ap (λ (u : Course). u.taken) m.1
took-loses w word stepped v m = absurd m

took-pushes : (w : Course) (stepped : Stepped) (v : Course) → Pushes w stepped v → v.taken ≡ w.taken
took-pushes w Pushed v (c, item, rest, front, free, room, after) = ap (λ (u : Course). u.taken) after
took-pushes w FoundFull v (c, item, rest, front, found) = elim found [
  | inl before ↦ ap (λ (u : Course). u.taken) before.1
  | inr now ↦ ap (λ (u : Course). u.taken) now.2
]
took-pushes w Idle v m = ap (λ (u : Course). u.taken) m.1
took-pushes w stepped v m = absurd m

took-takes : (w : Course) (c : ℕ) (stepped : Stepped) (v : Course) → Takes w c stepped v → v.taken ≡ w.taken ++ taken_with (Some c) stepped
took-takes w c (Took item) v (rest, front, after) = ap (λ (u : Course). u.taken) after
took-takes w c Idle v m = ap (λ (u : Course). u.taken) m.1 ∙ sym (append-nil w.taken)
took-takes w c stepped v m = absurd m

took-leaves : (w : Course) (word : Option ℕ) (stepped : Stepped) (v : Course) → Leaves w word stepped v → v.taken ≡ w.taken
took-leaves w word Left v (c, least, enters) = took-enters w (Cut c word) v enters
took-leaves w word Idle v m = ap (λ (u : Course). u.taken) m.1
took-leaves w word stepped v m = absurd m

pub took : (w : Course) (step : Step) (stepped : Stepped) (v : Course) → Moves w step stepped v → v.taken ≡ w.taken ++ taken_with (taker_of step) stepped
took w (Post e) stepped v m = took-posts w e stepped v m ∙ sym (append-nil w.taken)
took w Accept stepped v m = took-accepts w stepped v m ∙ sym (append-nil w.taken)
took w (Lose word) stepped v m = took-loses w word stepped v m ∙ sym (append-nil w.taken)
took w Push stepped v m = took-pushes w stepped v m ∙ sym (append-nil w.taken)
took w (Take c) stepped v m = took-takes w c stepped v m
took w (Leave word) stepped v m = took-leaves w word stepped v m ∙ sym (append-nil w.taken)

-- one step more
pub reaches-last : (w : Course) (steps : List Step) (step : Step) (stepped : Stepped) (u v : Course) → Reaches w steps u → Moves u step stepped v → Reaches w (steps ++ step ∷ []) v
reaches-last w [] step stepped u v same moves = (stepped, v, subst (λ x. Moves x step stepped v) same moves, refl)
reaches-last w (s ∷ steps) step stepped u v (first, x, m, rest) moves = (first, x, m, reaches-last x steps step stepped u v rest moves)

pub reached-last : (w : Course) (step : Step) (stepped : Stepped) (v : Course) → IsReached w → Moves w step stepped v → IsReached v
reached-last w step stepped v r moves = record {
  grants = r.grants;
  inbox_cap = r.inbox_cap;
  outbox_cap = r.outbox_cap;
  steps = r.steps ++ step ∷ [];
  reaches = reaches-last _ r.steps step stepped w v r.reaches moves;
}

-- of all the steps, done were made, and the rest is to come
pub record IsRunning (w : Course) (all : List Step) (done : ℕ) (v : Course) (rest : List Step) (log : List (ℕ × Item)) : Type 0 where
  pub made : List Step
  pub whole : all ≡ made ++ rest
  pub count : done ≡ length made
  pub reaches : Reaches w made v
  pub taken : v.taken ≡ w.taken ++ log

pub running-begun : (w : Course) (all : List Step) → IsRunning w all 0 w all []
running-begun w all = record { made = []; whole = refl; count = refl; reaches = refl; taken = sym (append-nil w.taken) }

pub running-next : (w : Course) (all : List Step) (done : ℕ) (u v : Course) (step : Step) (rest : List Step) (before after : List (ℕ × Item))
    → IsRunning w all done u (step ∷ rest) before → Advances u step v before after → IsRunning w all (done + 1) v rest after
running-next w all done u v step rest before after run one = record {
  made = run.made ++ step ∷ [];
  whole = run.whole ∙ sym (append_assoc run.made (step ∷ []) rest);
  count = ap (λ n. n + 1) run.count ∙ sym (length-last run.made step);
  reaches = reaches-last w run.made step one.stepped u v run.reaches one.moves;
  taken =
      took u step one.stepped v one.moves ∙ ap (λ l. l ++ taken_with (taker_of step) one.stepped) run.taken
      ∙ append_assoc w.taken before (taken_with (taker_of step) one.stepped) ∙ ap (λ l. w.taken ++ l) (sym one.taken);
}
  where
    length-last : (xs : List Step) (x : Step) → length (xs ++ x ∷ []) ≡ length xs + 1
    length-last xs x = grind (arith, length-append)

take-made : (xs ys : List Step) → take (length xs) (xs ++ ys) ≡ xs
take-made [] ys = refl
take-made (x ∷ xs) ys = ap (λ l. x ∷ l) (take-made xs ys)

pub running-reaches : (w : Course) (all : List Step) (done : ℕ) (v : Course) (rest : List Step) (taken : List (ℕ × Item)) → IsRunning w all done v rest taken → Reaches w (take done all) v
running-reaches w all done v rest taken run =
    subst (λ l. Reaches w l v) (sym (ap (take done) run.whole ∙ ap (λ n. take n (run.made ++ rest)) run.count ∙ take-made run.made rest)) run.reaches

pub running-count : (w : Course) (all : List Step) (done : ℕ) (v : Course) (rest : List Step) (taken : List (ℕ × Item)) → IsRunning w all done v rest taken → done + length rest ≡ length all
running-count w all done v rest taken run =
    let whole : length all ≡ length (run.made ++ rest) = ap length run.whole in
    let count : done ≡ length run.made = run.count in
    omega (arith, length-append run.made rest)

-- a step that is made or refused
pub reached-step : (w : Course) (step : Step) (v : Course) (r : Result Stepped Fault) → IfOk r (λ stepped. Moves w step stepped v) → OnErr r (v ≡ w) → IsReached w → IsReached v
reached-step w step v (Ok stepped) moves same r = reached-last w step stepped v r moves
reached-step w step v (Err fault) moves same r = subst IsReached (sym same) r
