use Rattle.std.proofs.Common.{◌≡◌, true, [], ◌++◌, ◌∙◌, append-nil, append_assoc, ap, arith, refl, rules, sym, take}
use Rattle.rawsocket.proofs.Lemmas.{all_turns, then_steps}
use Rattle.client_commands.specs.Acts.{standing_of, terms_of}
use Rattle.client_commands.specs.Published.{IsPublishedOf}
use Rattle.client_commands.proofs.EndsLemmas.{ends-in-last, ends-in-piece, ends-interrupted}
use Rattle.client_commands.proofs.PublishingLemmas.{published-attending, published-end, published-more, published-none}
use Rattle.client_commands.proofs.publishing.publish_pieces.Goals as goal

pub pieces-init : goal.pieces-init
pieces-init g c =
    let command = c.args.command.now in
    let now = standing_of c.args.session.now (g.I.Source.seen c.args.source.now) (g.O.Sink.seen c.args.sink.now) in
    record {
      read_so_far = [];
      read = sym (append-nil (g.J.Source.seen c.args.input.now).given);
      published = published-none command (terms_of c.args.session.now) now now c.args.progress.now.rest.items c.args.progress.now.count c.args.progress.now.answered c.requires.fresh c.requires.none c.requires.unasked refl;
      all = λ _. c.requires.unasked ∙ sym c.requires.none;
      terms = refl;
      reads = refl;
      writes = refl;
      steps = all_turns c.new-turns.ensures;
    }

pub read_piece-requires : goal.read_piece-requires
read_piece-requires g c = omega (arith, c.requires.wide, c.pieces.auto.buffer)

pub pieces-preserved : goal.pieces-preserved
pieces-preserved g c =
    let command = c.args.command.now in
    let first = standing_of c.args.session.now (g.I.Source.seen c.args.source.now) (g.O.Sink.seen c.args.sink.now) in
    let begun = standing_of c.pieces.session (g.I.Source.seen c.pieces.source) (g.O.Sink.seen c.pieces.sink) in
    let mid = standing_of c.attend.new.session (g.I.Source.seen c.attend.new.source) (g.O.Sink.seen c.attend.new.sink) in
    let now = standing_of c.publish_piece.new.session (g.I.Source.seen c.publish_piece.new.source) (g.O.Sink.seen c.publish_piece.new.sink) in
    let so_far = c.pieces.invariant.read_so_far in
    let same : terms_of c.attend.new.session ≡ terms_of c.args.session.now = c.attend.ensures.terms ∙ c.pieces.invariant.terms in
    let attended : IsPublishedOf command (terms_of c.args.session.now) first mid so_far c.pieces.progress.rest.items c.pieces.progress.count c.pieces.progress.answered =
    published-attending command (terms_of c.args.session.now) first (terms_of c.pieces.session) begun mid so_far c.pieces.progress.rest.items c.pieces.progress.count c.pieces.progress.answered
    c.pieces.invariant.terms c.in_default.ensures.attended c.pieces.invariant.published in
    let piece = take c.in-Ok.count c.read_piece.new.buffer in
    record {
      read_so_far = so_far ++ piece;
      read = c.in-Ok.ensures.given ∙ ap (λ xs. xs ++ piece) c.pieces.invariant.read ∙ append_assoc (g.J.Source.seen c.args.input.now).given so_far piece;
      published =
          published-more command (terms_of c.args.session.now) first (terms_of c.attend.new.session) mid now so_far piece c.pieces.progress.rest.items c.publish_piece.new.progress.rest.items
          c.pieces.progress.count c.publish_piece.new.progress.count c.pieces.progress.answered c.publish_piece.new.progress.answered same c.in_default-publish_piece.ensures.published attended;
      all = c.in_default-publish_piece.ensures.all;
      terms = c.publish_piece.ensures.terms ∙ same;
      reads = omega (arith, c.in_default-publish_piece.ensures.reads, c.in_default.ensures.reads, c.pieces.invariant.reads);
      writes = omega (arith, c.in_default-publish_piece.ensures.writes, c.in_default.ensures.writes, c.pieces.invariant.writes);
      steps = then_steps c.pieces.invariant.steps c.in-Ok.ensures.steps;
    }

pub returns-in-Err-publish_piece-clause-ends : goal.returns-in-Err-publish_piece-clause-ends
returns-in-Err-publish_piece-clause-ends g c =
    let command = c.args.command.now in
    let first = standing_of c.args.session.now (g.I.Source.seen c.args.source.now) (g.O.Sink.seen c.args.sink.now) in
    let begun = standing_of c.pieces.session (g.I.Source.seen c.pieces.source) (g.O.Sink.seen c.pieces.sink) in
    let mid = standing_of c.attend.new.session (g.I.Source.seen c.attend.new.source) (g.O.Sink.seen c.attend.new.sink) in
    let now = standing_of c.publish_piece.new.session (g.I.Source.seen c.publish_piece.new.source) (g.O.Sink.seen c.publish_piece.new.sink) in
    let so_far = c.pieces.invariant.read_so_far in
    let same : terms_of c.attend.new.session ≡ terms_of c.args.session.now = c.attend.ensures.terms ∙ c.pieces.invariant.terms in
    let attended : IsPublishedOf command (terms_of c.args.session.now) first mid so_far c.pieces.progress.rest.items c.pieces.progress.count c.pieces.progress.answered =
    published-attending command (terms_of c.args.session.now) first (terms_of c.pieces.session) begun mid so_far c.pieces.progress.rest.items c.pieces.progress.count c.pieces.progress.answered
    c.pieces.invariant.terms c.in_default.ensures.attended c.pieces.invariant.published in
    let piece = take c.in-Ok.count c.read_piece.new.buffer in
    λ is. record {
      input = so_far ++ piece;
      read = c.in-Ok.ensures.given ∙ ap (λ xs. xs ++ piece) c.pieces.invariant.read ∙ append_assoc (g.J.Source.seen c.args.input.now).given so_far piece;
      ends =
          ends-in-piece command (terms_of c.args.session.now) first (terms_of c.attend.new.session) mid now so_far piece c.pieces.progress.rest.items c.pieces.progress.count c.pieces.progress.answered
          (g.J.Source.seen c.read_piece.new.source).is_ended c.in-Err-publish_piece.fault same (c.in-Err-publish_piece.ensures.ends is) attended;
    }

pub returns-in-Err-Ended-clause-published : goal.returns-in-Err-Ended-clause-published
returns-in-Err-Ended-clause-published g c =
    let command = c.args.command.now in
    let t = terms_of c.args.session.now in
    let first = standing_of c.args.session.now (g.I.Source.seen c.args.source.now) (g.O.Sink.seen c.args.sink.now) in
    let begun = standing_of c.pieces.session (g.I.Source.seen c.pieces.source) (g.O.Sink.seen c.pieces.sink) in
    let mid = standing_of c.attend.new.session (g.I.Source.seen c.attend.new.source) (g.O.Sink.seen c.attend.new.sink) in
    let now = standing_of c.publish_last.new.session (g.I.Source.seen c.publish_last.new.source) (g.O.Sink.seen c.publish_last.new.sink) in
    let so_far = c.pieces.invariant.read_so_far in
    published-end command t first (terms_of c.attend.new.session) mid now (g.J.Source.seen c.args.input.now).given (g.J.Source.seen c.read_piece.new.source).given so_far
    c.pieces.progress.rest.items c.pieces.progress.count c.pieces.progress.answered (c.attend.ensures.terms ∙ c.pieces.invariant.terms) (c.in-Err-Ended.ensures.kept ∙ c.pieces.invariant.read) c.in_default-publish_last.ensures.published
    (published-attending command t first (terms_of c.pieces.session) begun mid so_far c.pieces.progress.rest.items c.pieces.progress.count c.pieces.progress.answered
    c.pieces.invariant.terms c.in_default.ensures.attended c.pieces.invariant.published)

pub returns-in-Err-publish_last-clause-ends : goal.returns-in-Err-publish_last-clause-ends
returns-in-Err-publish_last-clause-ends g c =
    let command = c.args.command.now in
    let t = terms_of c.args.session.now in
    let first = standing_of c.args.session.now (g.I.Source.seen c.args.source.now) (g.O.Sink.seen c.args.sink.now) in
    let begun = standing_of c.pieces.session (g.I.Source.seen c.pieces.source) (g.O.Sink.seen c.pieces.sink) in
    let mid = standing_of c.attend.new.session (g.I.Source.seen c.attend.new.source) (g.O.Sink.seen c.attend.new.sink) in
    let now = standing_of c.publish_last.new.session (g.I.Source.seen c.publish_last.new.source) (g.O.Sink.seen c.publish_last.new.sink) in
    let so_far = c.pieces.invariant.read_so_far in
    let over : (g.J.Source.seen c.read_piece.new.source).is_ended ≡ true = search rules in
    λ is. record {
      input = so_far;
      read = c.in-Err-Ended.ensures.kept ∙ c.pieces.invariant.read;
      ends =
          ends-in-last command t first (terms_of c.attend.new.session) mid now so_far c.pieces.progress.rest.items c.pieces.progress.count c.pieces.progress.answered
          (g.J.Source.seen c.read_piece.new.source).is_ended c.in-Err-publish_last.fault (c.attend.ensures.terms ∙ c.pieces.invariant.terms) over (c.in-Err-publish_last.ensures.ends is)
          (published-attending command t first (terms_of c.pieces.session) begun mid so_far c.pieces.progress.rest.items c.pieces.progress.count c.pieces.progress.answered
          c.pieces.invariant.terms c.in_default.ensures.attended c.pieces.invariant.published);
    }

pub returns-in-Err-clause-ends : goal.returns-in-Err-clause-ends
returns-in-Err-clause-ends g c =
    let begun = standing_of c.pieces.session (g.I.Source.seen c.pieces.source) (g.O.Sink.seen c.pieces.sink) in
    let now = standing_of c.attend.new.session (g.I.Source.seen c.attend.new.source) (g.O.Sink.seen c.attend.new.sink) in
    λ is. record {
      input = c.pieces.invariant.read_so_far;
      read = c.pieces.invariant.read;
      ends =
          ends-interrupted c.args.command.now (terms_of c.args.session.now) (standing_of c.args.session.now (g.I.Source.seen c.args.source.now) (g.O.Sink.seen c.args.sink.now)) (terms_of c.pieces.session) begun now
          c.pieces.invariant.read_so_far c.pieces.progress.rest.items c.pieces.progress.count c.pieces.progress.answered (g.J.Source.seen c.pieces.input).is_ended c.in-Err.fault c.pieces.invariant.terms c.pieces.invariant.all
          c.in-Err.ensures.stops c.pieces.invariant.published;
    }
