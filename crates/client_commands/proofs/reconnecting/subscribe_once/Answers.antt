use Rattle.std.proofs.Common.{[], ◌≡◌, ◌∙◌, ap, inl, inr, refl, subst}
use Rattle.session.specs.Opened.{Exchange, exchange, exchanged}
use Rattle.client_commands.specs.Acts.{PrintsAfterAsking}
use Rattle.client_commands.specs.Notes.{noting}
use Rattle.client_commands.proofs.reconnecting.subscribe_once.Goals as goal

pub returns : goal.returns
returns g c =
    let command = c.args.command.now in
    let fresh : exchanged (g.I.Source.seen c.args.source.now) (g.O.Sink.seen c.args.sink.now) ≡ exchange [] [] =
    ap (λ x. exchange x (g.O.Sink.seen c.args.sink.now).taken) c.requires.unread ∙ ap (λ x. exchange [] x) c.requires.unwritten in
    record {
      prints = record {
        listener = c.subscribe.new.listener;
        left = refl;
        last = exchanged (g.I.Source.seen c.subscribe.new.source) (g.O.Sink.seen c.subscribe.new.sink);
        prints = elim c.subscribe.ensures.prints [
          | inl none ↦ inl none
          | inr some ↦ inr (subst (λ (e : Exchange). PrintsAfterAsking command.contact.serializer command.contact.realm command.contact.authid command.wishes command.form command.topics.items e
              (exchanged (g.I.Source.seen c.subscribe.new.source) (g.O.Sink.seen c.subscribe.new.sink)) (g.P.Sink.seen c.args.output.now).taken (g.P.Sink.seen c.subscribe.new.output).taken
              (noting (g.N.Sink.seen c.args.notes.now)) (noting (g.N.Sink.seen c.subscribe.new.notes)) c.args.listener.now.left c.subscribe.new.listener) fresh some)
        ];
      };
      done = c.subscribe.ensures.done;
      lines = c.subscribe.ensures.lines.steps.failures;
    }
