use Rattle.std.proofs.Common.{◌≡◌, ◌∷◌, [], ◌∙◌, ap, eqb, false}
use Rattle.std.specs.List.{list_any}
use Rattle.realm.specs.Sessions.{joined}
use Rattle.replay.specs.Transcript.{is_named}
use Rattle.replay.proofs.UnusedNumbers.{fresh-may_join, named-more}
use Rattle.replay.proofs.line_replay.LineReplay.apply_line.Goals as goal

pub invariant_of-self-then-not-is_named : goal.invariant_of-self-then-not-is_named
invariant_of-self-then-not-is_named c = rw c.in_ok-push.ensures.items (record {
  joined_named = named-more (joined c.self.inside.world.history) c.self.inside.named.items (c.args.number ∷ []) c.self.invariant.joined_named;
  word = c.self.invariant.word;
})

pub open-requires-clause-may_join : goal.open-requires-clause-may_join
open-requires-clause-may_join c =
    let f : is_named c.args.self.now c.args.number ≡ false = cc in
    let fresh : list_any (λ m. eqb m c.args.number) c.self.inside.named.items ≡ false = ap (λ r. is_named r c.args.number) c.self.view_is ∙ f in
    fresh-may_join (joined c.self.inside.world.history) c.self.inside.named.items c.args.number c.requires fresh c.self.invariant.joined_named
