-- Acts that are posted to no inbox.
use Rattle.std.specs.Prelude.{None, List, map}
use Rattle.realm_inbox.specs.Posted.{Posted}
use Rattle.realm_inbox.specs.declared.act.Act.{Act}

-- these acts, as those of a connection 0
abbrev pub outside : {S : Type 0} → List (Act S) → Posted S
outside acts = record { inbox = None; conn = 0; said = map (λ act. (0, act)) acts }
