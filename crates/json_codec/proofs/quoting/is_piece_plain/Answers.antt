use Rattle.std.proofs.Common.{arith}
use Rattle.json.proofs.Printed.Plain.{plain_from_lanes}
use Rattle.json_codec.proofs.quoting.is_piece_plain.Goals as goal

pub returns : goal.returns
returns c = plain_from_lanes c.args.octets.now c.args.at 32 c.requires (omega arith) c.type_inv.octets
