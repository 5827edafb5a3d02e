use Rattle.std.proofs.lemmas.Result.{on_ok_weaker}
use Rattle.std.specs.Prelude.{codes}
use Rattle.json.specs.Print.{escape_byte}
use Rattle.client_commands.specs.EventLine.{event_entries, json_line}
use Rattle.client_commands.proofs.EntriesLemmas.{put_dict}
use Rattle.client_commands.proofs.event_lines.put_json.Goals as goal

pub returns-clause-put : goal.returns-clause-put
unfolding json_line escape_byte
returns-clause-put c =
    on_ok_weaker c.put.result
    (λ last. put_dict c.args.out.now.since c.put_all.new.self.since c.encode_text_into.new.out.since c.put_event.new.out.since c.put.new.self.since
    (codes "topic") c.args.topic.now (event_entries c.args.publication c.args.details.now c.args.args.now)
    c.in_ok-put_all.ensures.ok c.in_ok-encode_text_into.ensures.ok c.in_ok-put_event.ensures.put last)
    c.put.ensures.ok
