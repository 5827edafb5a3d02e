use Rattle.std.proofs.lemmas.Result.{on_ok_weaker}
use Rattle.std.specs.Prelude.{codes}
use Rattle.message_tree.specs.Data.{joined}
use Rattle.client_commands.specs.EventLine.{entry_if_any, number_if_any, publisher_entries, text_if_any}
use Rattle.client_commands.proofs.EntriesLemmas.{put_both}
use Rattle.client_commands.proofs.event_lines.put_publisher.Goals as goal

pub returns-clause-put : goal.returns-clause-put
unfolding publisher_entries
returns-clause-put c =
    let details = c.args.details.now in
    let id = entry_if_any (codes "publisher") (number_if_any details.publisher) in
    let authid = entry_if_any (codes "publisher_authid") (text_if_any details.publisher_authid) in
    let authrole = entry_if_any (codes "publisher_authrole") (text_if_any details.publisher_authrole) in
    on_ok_weaker c.put_text_if_any-2.result
    (λ last. put_both c.args.out.now.since c.put_number_if_any.new.out.since c.put_text_if_any-2.new.out.since id (joined authid authrole) c.in_ok-put_number_if_any.ensures.put
    (put_both c.put_number_if_any.new.out.since c.put_text_if_any.new.out.since c.put_text_if_any-2.new.out.since authid authrole c.in_ok-put_text_if_any.ensures.put last))
    c.put_text_if_any-2.ensures.put
