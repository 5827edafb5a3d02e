use Rattle.std.proofs.lemmas.Result.{on_ok_weaker}
use Rattle.std.specs.Prelude.{Some, codes}
use Rattle.message_tree.specs.Data.{entry, flag, joined, no_entries}
use Rattle.client_commands.specs.EventLine.{argument_entries, entry_if_any, event_entries, number_if_any, publisher_entries, uncarried_entries}
use Rattle.client_commands.proofs.EntriesLemmas.{put_both}
use Rattle.client_commands.proofs.event_lines.put_event.Goals as goal

pub returns-clause-put : goal.returns-clause-put
unfolding event_entries
returns-clause-put c =
    let end = c.put_uncarried.new.out.since in
    let publication = entry_if_any (codes "publication") (number_if_any (Some c.args.publication)) in
    let publisher = publisher_entries c.args.details.now in
    let retained = entry (codes "retained") (flag c.args.details.now.retained) no_entries in
    let uncarried = uncarried_entries c.args.args.now in
    on_ok_weaker c.put_uncarried.result
    (λ last. put_both c.args.out.now.since c.put_arguments.new.out.since end (argument_entries c.args.args.now) (joined publication (joined publisher (joined retained uncarried))) c.in_ok-put_arguments.ensures.put
    (put_both c.put_arguments.new.out.since c.put_number.new.out.since end publication (joined publisher (joined retained uncarried)) c.in_ok-put_number.ensures.put
    (put_both c.put_number.new.out.since c.put_publisher.new.out.since end publisher (joined retained uncarried) c.in_ok-put_publisher.ensures.put
    (put_both c.put_publisher.new.out.since c.put_flag.new.out.since end retained uncarried c.in_ok-put_flag.ensures.put last))))
    c.put_uncarried.ensures.put
