use Rattle.std.proofs.Common.{ap, ◌∙◌, take, arith}
use Rattle.std.proofs.lemmas.List.{length-take-le, take-take}
use Rattle.subscription_index.specs.body.Words.{worth}
use Rattle.subscription_index.proofs.WordsLemmas.{first_word, small_take}
use Rattle.subscription_index.proofs.words.word_of.Goals as goal

pub returns-clause-word : goal.returns-clause-word
returns-clause-word c =
    let octets = c.args.octets.now in
    first_word (take 8 octets) _ _ c.args.count (omega (arith, length-take-le 8 octets c.requires.long)) c.requires.few (small_take 8 octets (λ i. (c.type_inv.octets i).fits)) c.from_le_bytes-word.ensures c.most_of.ensures
    ∙ ap worth (take-take c.args.count 8 octets c.requires.few)
