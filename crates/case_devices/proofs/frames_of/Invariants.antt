use Rattle.std.proofs.Common.{◌≡◌, take, ℕ, Vec, Global}
use Rattle.std.specs.List.{flat_map}
use Rattle.rawsocket.specs.Frames.{contents, router_takes, Reads}
use Rattle.case_devices.proofs.frames_of.Given as goal

abbrev pub invariant-loop-piece : goal.invariant-loop-piece
invariant-loop-piece l = record {
  reads : Reads router_takes (flat_map (λ (p : Vec ℕ Global). p.items) (take l.piece-index l.pieces)) (contents l.frames.items) l.deframer.held;
  most : l.deframer.most ≡ router_takes;
}
