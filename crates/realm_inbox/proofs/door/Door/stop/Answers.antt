use Rattle.std.proofs.Common.{[], ◌∷◌, length, length-append, refl, sym, ap, ◌∙◌}
use Rattle.crossbeam_channel.specs.Claims.{view}
use Rattle.ghost_state.specs.GhostList.{items_of}
use Rattle.realm_inbox.specs.Ends.{shown_in, told_in}
use Rattle.realm_inbox.proofs.StepEffects.{stops_by, stop_told}
use Rattle.realm_inbox.proofs.door.Door.stop.Goals as goal

pub send-requires-clause-rule : goal.send-requires-clause-rule
send-requires-clause-rule g c = stops_by _ _ _ _ c.args.self.now.sits (ap items_of c.of.ensures ∙ c.args.self.now.saw)

pub returns-clause-posted : goal.returns-clause-posted
returns-clause-posted g c =
    let v = view c.args.self.now.pass in let t = stop_told _ _ c.args.self.now.sits c.in_default.ensures.rule in ap length t.2 ∙ length-append (told_in v) (shown_in v ∷ [])

pub returns-clause-told : goal.returns-clause-told
returns-clause-told g c = (stop_told _ _ c.args.self.now.sits c.in_default.ensures.rule).2

pub returns-clause-same : goal.returns-clause-same
returns-clause-same g c =
    let now = c.send.ensures.channel.0 in
    let old = c.args.self.now.at in
    let home = (stop_told _ _ c.args.self.now.sits c.in_default.ensures.rule).3 in
    λ i. ((now.0 ∙ sym old.0) i, (now.1 ∙ sym old.1) i, home i)
