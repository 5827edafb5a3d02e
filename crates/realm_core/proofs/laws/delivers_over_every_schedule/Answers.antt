use Rattle.realm_core.specs.Worlds.{new_world}
use Rattle.realm_core.proofs.RealmLaws.{realm-laws}
use Rattle.realm_core.proofs.WorldInvariant.{sound-new, sound-reached, delivers}
use Rattle.realm_core.proofs.laws.delivers_over_every_schedule.Goals as goal

pub returns : goal.returns
returns c = λ grants inbox_cap outbox_cap steps w reaches. delivers realm-laws w (sound-reached (new_world grants inbox_cap outbox_cap) steps w (sound-new grants inbox_cap outbox_cap) reaches)
