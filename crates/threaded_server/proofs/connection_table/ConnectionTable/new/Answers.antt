use Rattle.std.proofs.Common.{rules, ◌≡◌, ℕ, None, Some, length, replicate, sym, ap, ◌∙◌}
use Rattle.std.proofs.lemmas.List.{length-replicate}
use Rattle.ghost_state.specs.GhostList.{items_of}
use Rattle.threaded_server.proofs.Numbering.{none_numbered}
use Rattle.threaded_server.proofs.SeatSteps.{none_seated}
use Rattle.threaded_server.proofs.StoppingLemmas.{none_cover}
use Rattle.threaded_server.proofs.TableStanding.{none_yet}
use Rattle.threaded_server.specs.Posters.{lists_of}
use Rattle.threaded_server.specs.Realms.{places_of, realms_of}
use Rattle.threaded_server.specs.Stopping.{doors_of, inboxes_in}
use Rattle.threaded_server.proofs.connection_table.ConnectionTable.new.Goals as goal

pub invariant_of-result : goal.invariant_of-result
invariant_of-result g c =
    let roster = c.in_ok-roster.roster in
    let long : c.len-3.result ≡ length c.in_ok-roster.roster.over.plan.value.realms.items = search rules in
    let plain = c.in_ok-posters.ensures ∙ ap (λ n. replicate 256 (Some (replicate n None))) long in
    let zero : ℕ = 0 in
    let given : length c.new-6.result.given ≡ 256 = ap (λ t. length t.given) c.new-6.ensures ∙ length-replicate 256 zero in
    let s = none_yet roster.over.plan.value (realms_of c.in_ok-realms.realms) (lists_of c.in_ok-posters.posters) roster.entries.items (items_of roster.over.streams) c.in_ok-realms.ensures plain c.in_ok-roster.ensures.long c.in_ok-roster.ensures.none c.in_ok-roster.ensures.over in
    record { same = search rules; free = s.free; served = s.served; say = s.say; numbered = none_numbered c.new-6.result roster.entries.items (items_of roster.over.streams) given c.in_ok-roster.ensures.none c.in_ok-roster.ensures.over; seated = none_seated c.new-6.result roster.entries.items (items_of roster.lent) (ap (λ t. t.given) c.new-6.ensures) (ap (λ t. t.is_out) c.new-6.ensures) c.in_ok-roster.ensures.long c.in_ok-roster.ensures.none; kept = s.kept; in_order = ap places_of c.in_ok-realms.ensures ∙ sym (ap inboxes_in c.in_ok-doors.ensures); shown = ∣ none_cover (items_of roster.over.streams) (doors_of c.in_ok-doors.doors) c.in_ok-roster.ensures.over ∣₁; began = s.began }
