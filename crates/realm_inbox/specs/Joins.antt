-- Which act asks for a session.
use Rattle.std.specs.Prelude.{Bool, true, false}
use Rattle.realm_inbox.specs.declared.act.Act.{Act}
use Rattle.realm_inbox.specs.declared.act.Act.TheVariants.{Join, Said, Ping, Spoilt, Gone}

abbrev pub is_join : {S : Type 0} → Act S → Bool
is_join (Join joining) = true
is_join (Said said) = false
is_join (Ping payload) = false
is_join Spoilt = false
is_join Gone = false
