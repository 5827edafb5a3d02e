-- What holds of an answer.
use Rattle.std.proofs.Common.{Option, Some, None}
use Rattle.std.specs.Prelude.{IfSome}

pub some_weaker : {X : Type 0} (r : Option X) (P Q : X → Type 0) → ((x : X) → P x → Q x) → IfSome r P → IfSome r Q
some_weaker None P Q f h = tt
some_weaker (Some x) P Q f h = f x h
