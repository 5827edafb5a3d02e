use Rattle.std.proofs.Common.{ℕ, ◌<◌, ◌≤◌, slice_index}
use Rattle.msgpack_codec.proofs.utf8.is_ascii.Given as goal

-- no octet so far has a bit that isn't among these
abbrev pub invariant-loop-octet : goal.invariant-loop-octet
invariant-loop-octet l = (i : ℕ) → i < l.octet-index → slice_index l.octets i ≤ l.bits
