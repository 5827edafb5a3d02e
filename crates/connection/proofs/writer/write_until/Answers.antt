use Rattle.std.proofs.Common.{ap, Err, arith, length, subst, sym}
use Rattle.rawsocket.proofs.Lemmas.{all_turns, then_steps}
use Rattle.connection.proofs.WatchProgress.{none_told, then_over, then_told}
use Rattle.connection.proofs.WriterProgress.{then_passes, then_ends, none_so_far}
use Rattle.connection.specs.Watch.{AreToldBy, TellsSince}
use Rattle.connection.proofs.DrainProgress.{same_is_later, later_still}
use Rattle.connection.proofs.writer.write_until.Goals as goal

pub items-init : goal.items-init
items-init g c = record {
  done = none_so_far c.args.client c.args.drain.taken (g.S.Sink.seen c.args.sink.now).taken c.nothing-gathered.result.frames.items c.nothing-gathered.ensures.frames;
  told = none_told c.args.drain.taken (g.W.Watch.told c.args.watch.now);
  held = omega (arith, ap length c.nothing-gathered.ensures.frames);
  later = same_is_later g.H.Owed.begins g.H.Owed.begins_itself c.args.drain;
  steps = all_turns c.nothing-gathered.ensures.turns;
}

pub items-preserved : goal.items-preserved
items-preserved g c = record {
  done = then_passes c.args.client c.args.drain.taken c.items.drain.taken c.write_next.new.drain.taken (g.S.Sink.seen c.args.sink.now).taken (g.S.Sink.seen c.items.sink).taken (g.S.Sink.seen c.write_next.new.sink).taken
      c.items.gathered.frames.items c.write_next.new.gathered.frames.items c.items.invariant.done c.in_default.ensures.done;
  told = then_told c.args.drain.taken c.items.drain.taken c.write_next.new.drain.taken (g.W.Watch.told c.args.watch.now) (g.W.Watch.told c.items.watch) (g.W.Watch.told c.write_next.new.watch)
      c.items.invariant.told c.in_default.ensures.told;
  held = c.in_default.ensures.held;
  later = later_still g.H.Owed.begins g.H.Owed.begins_on c.args.drain c.items.drain c.write_next.new.drain c.items.invariant.later c.in_default.ensures.drain;
  steps = then_steps c.items.invariant.steps c.in_default.ensures.steps;
}

pub returns-in-Err-clause-written : goal.returns-in-Err-clause-written
returns-in-Err-clause-written g c =
    then_ends c.args.client c.in-Err.end c.args.drain.taken c.items.drain.taken c.write_next.new.drain.taken (g.S.Sink.seen c.args.sink.now).taken (g.S.Sink.seen c.items.sink).taken (g.S.Sink.seen c.write_next.new.sink).taken
    c.items.gathered.frames.items c.items.invariant.done c.in-Err.ensures.ended

pub returns-in-Err-clause-told : goal.returns-in-Err-clause-told
returns-in-Err-clause-told g c =
    subst (λ n. TellsSince c.args.drain.taken c.write_next.new.drain.taken (g.W.Watch.told c.args.watch.now) n (AreToldBy c.in-Err.end)) (sym c.ends.ensures)
    (then_over c.args.drain.taken c.items.drain.taken c.write_next.new.drain.taken (g.W.Watch.told c.args.watch.now) (g.W.Watch.told c.items.watch) (g.W.Watch.told c.write_next.new.watch)
    c.in-Err.end c.items.invariant.told c.in-Err.ensures.told_all)

pub returns-in-Err-clause-drain : goal.returns-in-Err-clause-drain
returns-in-Err-clause-drain g c = later_still g.H.Owed.begins g.H.Owed.begins_on c.args.drain c.items.drain c.write_next.new.drain c.items.invariant.later c.in-Err.ensures.drain

pub returns-in-Err-clause-stopped : goal.returns-in-Err-clause-stopped
returns-in-Err-clause-stopped g c = λ stopped. let rose = c.in-Err.ensures.stopped (ap Err stopped) in omega (arith, rose, c.items.invariant.later.finds)

pub returns-in-Err-clause-writes : goal.returns-in-Err-clause-writes
returns-in-Err-clause-writes g c = record { left = c.write_next.new.gathered.turns; steps = then_steps c.items.invariant.steps c.in-Err.ensures.steps }

pub returns-in-Err-clause-whole : goal.returns-in-Err-clause-whole
returns-in-Err-clause-whole g c = λ stopped until. c.in-Err.ensures.whole (ap Err stopped) until

pub returns-in-Err-clause-full : goal.returns-in-Err-clause-full
returns-in-Err-clause-full g c = λ full. let told = c.in-Err.ensures.full (ap Err full) in (told.0, omega (arith, told.1, c.items.invariant.later.finds), told.2)

pub returns-in-Err-clause-lost : goal.returns-in-Err-clause-lost
returns-in-Err-clause-lost g c = λ lost. let told = c.in-Err.ensures.lost (ap Err lost) in (told.0, omega (arith, told.1, c.items.invariant.later.finds), told.2)

pub returns-in-Err-clause-dropped : goal.returns-in-Err-clause-dropped
returns-in-Err-clause-dropped g c = λ dropped. let told = c.in-Err.ensures.dropped (ap Err dropped) in (told.0, omega (arith, told.1, c.items.invariant.later.finds), told.2)
