use Rattle.std.proofs.Common.{refl, sym}
use Rattle.realm_actor.proofs.AppliedActs.{enters_said, enters_silently}
use Rattle.realm_actor.proofs.WordSteps.{none_more}
use Rattle.realm_actor.proofs.entries.entry_of.Goals as goal

pub returns-then-says_with_word : goal.returns-then-says_with_word
returns-then-says_with_word g c = rw c.in-Said.is (enters_said g.row.S.Denot c.args.conn c.in-Said.said c.next_word-word.result (sym c.if-says_with_word.ensures) _ _ c.next_word-word.ensures)

pub returns-else-says_with_word : goal.returns-else-says_with_word
returns-else-says_with_word g c = rw c.in-Said.is (enters_silently g.row.S.Denot c.args.conn c.in-Said.said (sym c.if-says_with_word.ensures) _)

pub returns-in-Ping : goal.returns-in-Ping
returns-in-Ping g c = rw c.in-Ping.is (0, refl, sym (none_more (g.W.IdSource.given c.args.words.now)))

pub returns-in-Spoilt : goal.returns-in-Spoilt
returns-in-Spoilt g c = rw c.in-Spoilt.is (c.next_word-word-in-Spoilt.result, refl, c.next_word-word-in-Spoilt.ensures)

pub returns-in-Gone : goal.returns-in-Gone
returns-in-Gone g c = rw c.in-Gone.is (c.next_word-word-in-Gone.result, refl, c.next_word-word-in-Gone.ensures)
