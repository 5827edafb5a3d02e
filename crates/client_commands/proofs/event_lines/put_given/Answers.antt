use Rattle.std.proofs.Common.{◌++◌, ◌∙◌, true, ap}
use Rattle.std.proofs.lemmas.Result.{on_ok_weaker}
use Rattle.std.specs.Prelude.{codes}
use Rattle.message_tree.specs.Data.{joined}
use Rattle.json_codec.specs.Encoder.{entries_text}
use Rattle.client_commands.specs.EventLine.{entry_if_any}
use Rattle.client_commands.proofs.EntriesLemmas.{put_both}
use Rattle.client_commands.proofs.event_lines.put_given.Goals as goal

pub returns-clause-put : goal.returns-clause-put
returns-clause-put c =
    let given = c.in_ok-arguments.arguments in
    let out = c.args.out.now.since in
    on_ok_weaker c.put_content-2.result
    (λ last. put_both out c.put_content.new.out.since c.put_content-2.new.out.since (entry_if_any (codes "args") given.args) (entry_if_any (codes "kwargs") given.kwargs) c.in_ok-put_content.ensures.put last
    ∙ ap (λ x. out ++ entries_text true (joined (entry_if_any (codes "args") x) (entry_if_any (codes "kwargs") given.kwargs))) c.in_ok-arguments.ensures.args
    ∙ ap (λ x. out ++ entries_text true (joined (entry_if_any (codes "args") c.args.args.now.args) (entry_if_any (codes "kwargs") x))) c.in_ok-arguments.ensures.kwargs)
    c.put_content-2.ensures.put
