use Rattle.std.proofs.Common.{◌≡◌, ◌<◌, ap, arith, length}
use Rattle.std.proofs.lemmas.Bool.Decides.{nat_tests}
use Rattle.rawsocket.specs.Frames.{contents}
use Rattle.client_session.specs.Hearing.{terms}
use Rattle.client_session.proofs.HearingLemmas.{listened_read, listened_silent, listened_waiting, none_wait, on_ok, some_wait}
use Rattle.client_session.proofs.inbox.listen_next.Goals.{then-is_empty+in-Ok, else-is_empty}
use Rattle.client_session.proofs.inbox.listen_next.Goals as goal

pub returns-in-Err-clause-next : goal.returns-in-Err-clause-next
returns-in-Err-clause-next g c =
    let waiting = c.args.inbox.now.waiting in
    let none : length waiting.items ≡ 0 = grind (arith, nat_tests, c.is_empty.ensures, c.if-is_empty.true, waiting.ok.0) in
    listened_silent (terms c.args.broker.serializer c.args.broker.limit) (contents waiting.items) c.args.inbox.now.deframer.held c.read_more.new.deframer.held (g.I.Source.seen c.args.source.now).given
    (g.I.Source.seen c.read_more.new.source).given (g.O.Sink.seen c.args.sink.now).taken c.in-Err.fault (none_wait waiting.items none) (ap (λ d. d.held) c.in-Err.ensures.same) c.requires.steady c.in-Err.ensures.stops c.in-Err.ensures.lost

pub returns-in-Err-clause-unread : goal.returns-in-Err-clause-unread
returns-in-Err-clause-unread g c =
    let waiting = c.args.inbox.now.waiting in
    let none : length waiting.items ≡ 0 = grind (arith, nat_tests, c.is_empty.ensures, c.if-is_empty.true, waiting.ok.0) in
    λ some. absurd (some (none_wait waiting.items none))

pub returns-clause-next : goal.returns-clause-next
returns-clause-next g c =
    let t = terms c.args.broker.serializer c.args.broker.limit in
    let waiting = c.args.inbox.now.waiting in
    let held = c.args.inbox.now.deframer.held in
    let here = contents c.if-is_empty.inbox.waiting.items in
    let left = contents c.hear_waiting.new.waiting.items in
    let held_now = c.if-is_empty.inbox.deframer.held in
    let given = (g.I.Source.seen c.args.source.now).given in
    let given_now = (g.I.Source.seen c.if-is_empty.source).given in
    let taken = (g.O.Sink.seen c.args.sink.now).taken in
    let now = (g.O.Sink.seen c.hear_waiting.new.sink).taken in
    elim c.if-is_empty.branch [
      | then-is_empty+in-Ok w ↦
          let none : length waiting.items ≡ 0 = grind (arith, nat_tests, c.is_empty.ensures, w.if-is_empty.true, waiting.ok.0) in
          listened_read t (contents waiting.items) (contents w.in-Ok.frames.items) here left held w.read_more.new.deframer.held held_now given (g.I.Source.seen w.read_more.new.source).given given_now taken now
          c.hear_waiting.result (none_wait waiting.items none) (ap (λ i. contents i.waiting.items) w.inbox-is) (ap (λ i. i.deframer.held) w.inbox-is) (ap (λ s. (g.I.Source.seen s).given) w.source-is)
          w.in-Ok.ensures.more c.hear_waiting.ensures.gives
      | else-is_empty w ↦
          listened_waiting t (contents waiting.items) here left held held_now given given_now taken now c.hear_waiting.result (ap (λ i. contents i.waiting.items) w.inbox-is) (ap (λ i. i.deframer.held) w.inbox-is)
          (ap (λ s. (g.I.Source.seen s).given) w.source-is) c.requires.steady c.hear_waiting.ensures.gives
    ]

pub returns-clause-unread : goal.returns-clause-unread
returns-clause-unread g c =
    let waiting = c.args.inbox.now.waiting in
    elim c.if-is_empty.branch [
      | then-is_empty+in-Ok w ↦
          let none : length waiting.items ≡ 0 = grind (arith, nat_tests, c.is_empty.ensures, w.if-is_empty.true, waiting.ok.0) in
          λ some. absurd (some (none_wait waiting.items none))
      | else-is_empty w ↦ λ _. ap (λ s. g.I.Source.seen s) w.source-is
    ]

pub returns-clause-once : goal.returns-clause-once
returns-clause-once g c =
    let waiting = c.args.inbox.now.waiting in
    elim c.if-is_empty.branch [
      | then-is_empty+in-Ok w ↦
          on_ok c.hear_waiting.result _ (λ _. omega (arith, ap (λ s. (g.I.Source.seen s).calls) w.source-is, w.in-Ok.ensures.turn, w.in-Ok.ensures.reads.calls))
      | else-is_empty w ↦
          let some : 0 < length waiting.items = grind (arith, nat_tests, c.is_empty.ensures, w.if-is_empty.false, waiting.ok.0) in
          on_ok c.hear_waiting.result _ (λ none. absurd (some_wait waiting.items some none))
    ]
