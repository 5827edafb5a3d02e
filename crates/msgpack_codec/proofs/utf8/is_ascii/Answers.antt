use Rattle.std.proofs.Common.{◌<◌, ◌≤◌, length, slice_index, inl, inr, arith}
use Rattle.std.specs.Int.Bits.{bit_or}
use Rattle.std.proofs.lemmas.Bool.{cases_lt, ltb-true}
use Rattle.std.proofs.lemmas.List.{get_or_past}
use Rattle.std.proofs.lemmas.Nat.{le_or_l, le_or_r}
use borrow.Author.Count.{below_more}
use Rattle.msgpack_codec.proofs.utf8.is_ascii.Goals as goal

pub loop-octet-preserved : goal.loop-octet-preserved
loop-octet-preserved c =
    let octets = c.args.octets.now in
    let at = c.loop-octet.octet-index in
    let bits = c.loop-octet.bits in
    let octet = slice_index octets at in
    below_more (λ i. slice_index octets i ≤ bit_or bits octet) at (λ i before. omega (arith, c.loop-octet.invariant i before, le_or_l bits octet)) (le_or_r bits octet)

pub returns : goal.returns
returns c = λ few i.
    let octets = c.args.octets.now in
    let within : c.loop-octet.bits < 128 = ltb-true c.loop-octet.bits 128 few in
    elim (cases_lt i (length octets)) [
      | inl before ↦ omega (arith, c.loop-octet.invariant i (omega arith))
      | inr past ↦ omega (arith, get_or_past octets i 0 past)
    ]
