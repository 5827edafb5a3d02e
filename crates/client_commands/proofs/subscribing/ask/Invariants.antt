use Rattle.std.proofs.Common.{◌≡◌, ◌++◌}
use Rattle.client_commands.specs.Acts.{asked}
use Rattle.client_commands.proofs.subscribing.ask.Given as goal

abbrev pub invariant-topics : goal.invariant-topics
invariant-topics g l = record {
  said : (g.O.Sink.seen l.sink).taken ≡ (g.O.Sink.seen l.fn.sink).taken ++ asked l.link.serializer l.command.wishes l.command.topics.items l.place;
  writes : (g.O.Sink.seen l.sink).failures ≡ (g.O.Sink.seen l.fn.sink).failures;
}
