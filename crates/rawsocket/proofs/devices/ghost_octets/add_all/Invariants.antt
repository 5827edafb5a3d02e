use Rattle.std.proofs.Common.{◌≡◌, ◌++◌, take}
use Rattle.ghost_state.specs.GhostList.{items_of}
use Rattle.rawsocket.proofs.devices.ghost_octets.add_all.Given as goal

abbrev pub invariant-loop-octet : goal.invariant-loop-octet
invariant-loop-octet l = items_of l.passed ≡ items_of l.initial.passed ++ take l.octet-index l.octets
