use Rattle.std.proofs.Common.{◌≡◌, ◌∷◌, [], true, ap, arith, Some, None, if◌then◌else◌}
use Rattle.std.specs.Float.{binary64, float_is_finite}
use Rattle.std.proofs.lemmas.Grind.{common_steps}
use Rattle.fast_float.specs.Text.{nearest}
use Rattle.serde_json.specs.Data.{float}
use Rattle.json_to_msgpack.proofs.LeafSpellings.{float_spelled}
use Rattle.json_to_msgpack.proofs.leaves.put_float.Goals as goal

pub returns : goal.returns
returns c =
    let finite : float_is_finite (nearest binary64 c.args.negative c.args.numeral.now) ≡ true = grind (arith, common_steps) in
    let x = nearest binary64 c.args.negative c.args.numeral.now in
    record {
      number = float x;
      read = ap (λ b. if b then Some (float x) else None) finite;
      added = record { octets = 202 ∷ 0 ∷ 0 ∷ 0 ∷ 0 ∷ []; behind = c.in_ok-put_all.ensures; spelled = float_spelled };
    }
