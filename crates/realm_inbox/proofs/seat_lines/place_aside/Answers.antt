use Rattle.std.proofs.Common.{◌≡◌, ◌≢◌, [], sym, ap, ◌∙◌, subst}
use Rattle.realm_inbox.specs.SeatLines.{aside_at}
use Rattle.realm_inbox.proofs.LinePlaces.{stands_aside, own_elsewhere}
use Rattle.realm_inbox.proofs.seat_lines.place_aside.Goals as goal

pub returns-in-Some-clause-none : goal.returns-in-Some-clause-none
returns-in-Some-clause-none g c = λ zero k seat. ap (λ a. aside_at k a) c.in-Some.is ∙ own_elsewhere k c.in-Some.post (λ e. seat (sym e ∙ sym c.place_of.ensures ∙ zero))

pub returns-in-Some-clause-some : goal.returns-in-Some-clause-some
returns-in-Some-clause-some g c = λ seat none. stands_aside c.place_of.result c.in-Some.post (sym c.place_of.ensures) (sym (ap (λ a. aside_at c.place_of.result a) c.in-Some.is) ∙ none)
