use Rattle.arguments.proofs.Written.{written_values}
use Rattle.arguments.proofs.held.HeldArguments.decoded.Goals as goal

pub trees_in-requires : goal.trees_in-requires
trees_in-requires c = rw c.as_slice.ensures (written_values c.in-Written.octets c.in-Written.has_kwargs (rw c.in-Written.is at c.requires))
