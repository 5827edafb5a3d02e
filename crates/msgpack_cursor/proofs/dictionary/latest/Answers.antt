use Rattle.std.proofs.Common.{◌≡◌, true, sym, ap, ◌∙◌}
use Rattle.std.specs.Str.{bytes_eq}
use Rattle.std.proofs.lemmas.Slice.Eq.{bytes_eq-Decides}
use Rattle.message_tree.specs.Data.{find_entry, put}
use Rattle.message_tree.proofs.Entries.{find_entry-put, find_entry-put-other}
use Rattle.msgpack_cursor.proofs.dictionary.latest.Goals as goal

pub returns-then-eq : goal.returns-then-eq
returns-then-eq c = λ es is.
    let same : c.args.entry.0.now ≡ c.args.key.now = (bytes_eq-Decides c.args.entry.0.now c.args.key.now).0 (sym c.if-eq.ensures) in
    sym (ap (λ k. find_entry c.args.key.now (put k c.args.entry.1 es)) same ∙ find_entry-put c.args.key.now c.args.entry.1 es)

pub returns-else-eq : goal.returns-else-eq
returns-else-eq c = λ es is.
    is ∙ sym (find_entry-put-other c.args.key.now c.args.entry.0.now c.args.entry.1 es (λ same.
    let eq : bytes_eq c.args.entry.0.now c.args.key.now ≡ true = (bytes_eq-Decides c.args.entry.0.now c.args.key.now).1 (sym same) in
    let apart = c.if-eq.ensures ∙ eq in cc))
