use Rattle.std.proofs.Common.{Some, [], append-nil, option_map, sym, ap, ◌∙◌}
use Rattle.std.proofs.lemmas.Option.{none-some}
use Rattle.realm_inbox.specs.EndViews.{received}
use Rattle.threaded_server.specs.Posters.{poster_in, traces}
use Rattle.threaded_server.proofs.poster_table.drain_slot.Goals as goal

pub drain_by-requires : goal.drain_by-requires
drain_by-requires g c = record { here = λ p e. c.requires.here p (ap (λ o. poster_in (option_map (λ posters. posters.items) o) c.args.realm) c.in-Some.is ∙ e) }

pub returns-in-Some-clause-traces : goal.returns-in-Some-clause-traces
returns-in-Some-clause-traces g c = ap Some c.drain_by.ensures.traces ∙ sym (ap (λ o. option_map traces (option_map (λ posters. posters.items) o)) c.in-Some.is)

pub returns-in-Some-clause-received : goal.returns-in-Some-clause-received
returns-in-Some-clause-received g c p e = c.drain_by.ensures.received p (sym (ap (λ o. poster_in (option_map (λ posters. posters.items) o) c.args.realm) c.in-Some.is) ∙ e)

pub returns-in-Some-clause-more : goal.returns-in-Some-clause-more
returns-in-Some-clause-more g c = c.drain_by.ensures.more

pub returns-in_default-clause-received : goal.returns-in_default-clause-received
returns-in_default-clause-received g c p e = absurd (none-some p (sym (ap (λ o. poster_in (option_map (λ posters. posters.items) o) c.args.realm) c.in_default.is) ∙ e))

pub returns-in_default-clause-more : goal.returns-in_default-clause-more
returns-in_default-clause-more g c = ([], append-nil (received c.args.inbox.now))
