use Rattle.std.proofs.Common.{◌≡◌, ◌++◌, List}
use Rattle.rawsocket.specs.Steps.{Fine, Steps, write_meter}
use Rattle.client_messages.specs.declared.heard.Heard.{Heard}
use Rattle.client_commands.specs.Acts.{IsCountedOff, Listens, MayCome, events, granted, noted, printed, standing_of, terms_of}
use Rattle.client_commands.specs.Notes.{IsNoted, noting}
use Rattle.client_commands.proofs.subscribing.follow.Given as goal

abbrev pub invariant-messages : goal.invariant-messages
invariant-messages g l = record {
  heards : List Heard;
  harmless : MayCome heards;
  listens : Listens (terms_of l.fn.session) (standing_of l.fn.session (g.I.Source.seen l.fn.source) (g.O.Sink.seen l.fn.sink)) (standing_of l.session (g.I.Source.seen l.source) (g.O.Sink.seen l.sink)) heards;
  lines : (g.P.Sink.seen l.output).taken ≡ (g.P.Sink.seen l.fn.output).taken ++ printed l.command.form l.command.topics.items heards;
  notes_are :
      IsNoted (noted l.command.topics.items heards) (noting (g.N.Sink.seen l.fn.notes)) (noting (g.N.Sink.seen l.notes));
  granted_are : l.granted.items ≡ granted heards;
  counted : IsCountedOff l.fn.listener.left l.listener.left (events heards);
  terms : terms_of l.session ≡ terms_of l.fn.session;
  reads : (g.I.Source.seen l.source).failures ≡ (g.I.Source.seen l.fn.source).failures;
  writes : (g.O.Sink.seen l.sink).failures ≡ (g.O.Sink.seen l.fn.sink).failures;
  steps : Steps (write_meter (g.P.Sink.seen l.fn.output) 4294967296) (write_meter (g.P.Sink.seen l.output) l.turns) Fine;
}
