use Rattle.std.proofs.Common.{◌≡◌, None, All, length}
use Rattle.threaded_server.proofs.roster.no_entries.Given as goal

abbrev pub invariant-loop-place : goal.invariant-loop-place
invariant-loop-place g l = All (λ slot. slot ≡ None) l.entries.items × (length l.entries.items ≡ l._place)
