use Rattle.std.proofs.Common.{eqb, ap₂, ◌∙◌, arith}
use Rattle.subscription_index.proofs.WordsLemmas.{words_alike}
use Rattle.subscription_index.proofs.words.begin_alike.Goals as goal

pub returns-then-count-le-WORD-clause-alike : goal.returns-then-count-le-WORD-clause-alike
returns-then-count-le-WORD-clause-alike c =
    ap₂ (λ v w. eqb v w) c.word_of.ensures.word c.word_of-then-count-le-WORD.ensures.word
    ∙ words_alike c.args.one.now c.args.other.now c.args.count (omega (arith, c.if-count-le-WORD.true, c.requires.one)) (omega (arith, c.if-count-le-WORD.true, c.requires.other))
    c.word_of.ensures.octets c.word_of-then-count-le-WORD.ensures.octets
