use Rattle.std.proofs.Common.{[], ◌∷◌, ◌++◌, sym, ap, ◌∙◌, subst}
use Rattle.ghost_state.specs.GhostList.{items_of}
use Rattle.realm_actor.specs.Words.{Words, ◌⊕◌}
use Rattle.broker_threads.specs.Words.{CountsOn}
use Rattle.broker_threads.proofs.CountedWords.{counts_on, are_counted_words, same_kind}
use Rattle.broker_threads.proofs.id_words.IdWordsIdSource.next_word.Goals as goal

pub invariant_of-self : goal.invariant_of-self
invariant_of-self c =
    subst (λ given. CountsOn c.next-word.new.self given) (sym (c.add.ensures ∙ ap (λ w. items_of c.self.inside.drawn ++ w ∷ []) c.of.ensures))
    (counts_on c.self.inside.origin c.next-word.result c.next-word.new.self (items_of c.self.inside.drawn) c.next-word.ensures c.self.invariant)

pub returns-clause-counted : goal.returns-clause-counted
returns-clause-counted c = are_counted_words c.next-word.new.self (items_of c.add.new.self) (invariant_of-self c)

pub returns-clause-given : goal.returns-clause-given
returns-clause-given c =
    let kind = same_kind c.self.inside.origin c.next-word.result c.next-word.new.self c.next-word.ensures in
    let given = c.add.ensures ∙ ap (λ w. items_of c.self.inside.drawn ++ w ∷ []) c.of.ensures in
    (λ i. record { is_counting = kind i; given = given i }) ∙ ap (λ (w : Words). w ⊕ (c.next-word.result ∷ [])) c.self.view_is
