use Rattle.std.proofs.Common.{◌≡◌, ◌≤◌, ◌+◌, ℕ, ◌++◌, length, map}
use Rattle.ghost_state.specs.GhostList.{items_of}
use Rattle.threaded_server.proofs.RunSteps.{RunSoFar}
use Rattle.threaded_server.specs.Posters.{lists_of, trace_at}
use Rattle.threaded_server.specs.Realms.{AllReceived, shown}
use Rattle.threaded_server.specs.Stopping.{AreDoorsOf, door_view, doors_of}
use Rattle.threaded_server.proofs.realms.Realms.join.Given as goal

abbrev pub invariant-loop-realm : goal.invariant-loop-realm
invariant-loop-realm g l =
    RunSoFar (map shown l.initial.handles.items) (map shown l.handles.items) (items_of l.runs)
    × ((length (items_of l.runs) ≡ l.realm) × (length l.handles.items + l.realm ≡ l.realm-end))
    × ((k i : ℕ) → l.realm ≤ i → trace_at (lists_of l.posters) k i ≡ trace_at (lists_of l.initial.posters) k i)
    × AllReceived (items_of l.runs) (lists_of l.initial.posters)
    × (doors_of l.initial.doors ≡ map (λ run. door_view run.door.value) (items_of l.runs) ++ doors_of l.doors)
    × AreDoorsOf (map shown l.handles.items) (doors_of l.doors)
