use Rattle.std.proofs.Common.{◌≡◌, List}
use Rattle.client_messages.specs.declared.client_message.ClientMessage.TheVariants.{Goodbye}
use Rattle.client_messages.specs.declared.heard.Heard.{Heard}
use Rattle.session.specs.Opened.{exchanged}
use Rattle.client_session.specs.Saying.{saying}
use Rattle.client_commands.specs.Acts.{Continues, Listens, MayCome, standing_of, terms_of, writing}
use Rattle.client_commands.proofs.leaving.leave.Given as goal

abbrev pub invariant-messages : goal.invariant-messages
invariant-messages g l = record {
  passed : List Heard;
  harmless : MayCome passed;
  listens : Listens (terms_of l.fn.session) (writing (standing_of l.fn.session (g.I.Source.seen l.fn.source) (g.O.Sink.seen l.fn.sink)) (saying l.fn.session.line.serializer Goodbye)) (standing_of l.session (g.I.Source.seen l.source) (g.O.Sink.seen l.sink)) passed;
  goes_on : Continues (exchanged (g.I.Source.seen l.fn.source) (g.O.Sink.seen l.fn.sink)) (exchanged (g.I.Source.seen l.source) (g.O.Sink.seen l.sink));
  terms : terms_of l.session ≡ terms_of l.fn.session;
  reads : (g.I.Source.seen l.source).failures ≡ (g.I.Source.seen l.fn.source).failures;
  writes : (g.O.Sink.seen l.sink).failures ≡ (g.O.Sink.seen l.fn.sink).failures;
}
