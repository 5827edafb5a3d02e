use Rattle.std.proofs.Common.{◌≡◌, ◌==◌, cond, map, sym, ap, ◌∙◌, arith}
use Rattle.std.proofs.lemmas.Bool.{ne_eqb}
use Rattle.std.proofs.lemmas.Simd.{first_set_mask_l}
use Rattle.json.specs.Run.{is_stop}
use lib.Count.{count_trailing_zeros}
use lib.Lanes.{mask_l}
use Rattle.json_to_msgpack.proofs.Pieces.{piece_mask}
use Rattle.json_to_msgpack.proofs.scan.plain_in.Goals as goal

pub returns-then-stops-eq0 : goal.returns-then-stops-eq0
returns-then-stops-eq0 c =
    let v = c.args.piece in
    let long = c.fits-piece.0 in
    let none : mask_l (map is_stop v) ≡ 0 = sym (piece_mask v long) ∙ c.if-stops-eq0.true in
    sym (ap (λ k. cond (k == 0) 16 (count_trailing_zeros 64 k)) none) ∙ first_set_mask_l is_stop v 16 long (omega arith)

pub returns-else-stops-eq0 : goal.returns-else-stops-eq0
returns-else-stops-eq0 c =
    let v = c.args.piece in
    let long = c.fits-piece.0 in
    let m = mask_l (map is_stop v) in
    ap (count_trailing_zeros 64) (piece_mask v long)
    ∙ sym (ap (λ b. cond b 16 (count_trailing_zeros 64 m)) (ne_eqb m 0 (λ z. c.if-stops-eq0.false (piece_mask v long ∙ z))))
    ∙ first_set_mask_l is_stop v 16 long (omega arith)
