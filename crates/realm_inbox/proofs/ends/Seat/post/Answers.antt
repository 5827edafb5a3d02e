use Rattle.std.proofs.Common.{◌+◌, [], ◌∷◌, ◌++◌, length, length-append, refl, sym, ap, ◌∙◌}
use Rattle.crossbeam_channel.specs.Claims.{view}
use Rattle.ghost_state.specs.GhostList.{items_of}
use Rattle.realm_inbox.specs.Ends.{posted_in}
use Rattle.realm_inbox.proofs.StepEffects.{posts_by, post_told}
use Rattle.realm_inbox.proofs.ends.Seat.post.Goals as goal

pub send_quietly-requires-clause-rule : goal.send_quietly-requires-clause-rule
send_quietly-requires-clause-rule g c = let p = c.args.self.now in posts_by _ _ p.number _ _ p.sits c.requires.seat (ap items_of c.of-before.ensures ∙ p.told) c.requires.home

pub invariant_of-self : goal.invariant_of-self
invariant_of-self g c =
    let p = c.args.self.now in
    let t = post_told _ _ _ _ p.sits c.requires.seat c.in-Ok.ensures.rule in
    record {
      in_range = p.in_range;
      at = c.send_quietly.ensures.channel.0;
      sits = t.0;
      counted = c.tick.ensures ∙ ap (λ n. n + 1) p.counted ∙ sym (length-append (posted_in (view p.pass)) ((c.args.conn, c.args.act) ∷ [])) ∙ ap length (sym t.1);
      told = c.add.ensures ∙ ap (λ x. items_of p.past ++ x ∷ []) c.of-last.ensures ∙ ap (λ l. l ++ (c.args.conn, c.args.act) ∷ []) p.told ∙ sym t.1;
    }

pub returns-in-Ok-clause-posted : goal.returns-in-Ok-clause-posted
returns-in-Ok-clause-posted g c = (post_told _ _ _ _ c.args.self.now.sits c.requires.seat c.in-Ok.ensures.rule).1

pub returns-in-Ok-clause-same : goal.returns-in-Ok-clause-same
returns-in-Ok-clause-same g c =
    let now = c.send_quietly.ensures.channel.0 in let old = c.args.self.now.at in let home = (post_told _ _ _ _ c.args.self.now.sits c.requires.seat c.in-Ok.ensures.rule).2 in
    (refl, λ i. ((now.0 ∙ sym old.0) i, (now.1 ∙ sym old.1) i, home i))
