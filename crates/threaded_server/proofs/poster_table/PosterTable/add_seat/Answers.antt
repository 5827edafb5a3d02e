use Rattle.std.proofs.Common.{◌-◌, Some, set, option_map, slice_get, ap, ◌∙◌}
use Rattle.std.specs.Option.{option_flatten}
use Rattle.threaded_server.specs.Posters.{lists_of}
use Rattle.wamp_ids.specs.Numbers.{seat_of}
use Rattle.threaded_server.proofs.poster_table.PosterTable.add_seat.Goals as goal

pub returns : goal.returns
returns g c =
    let slots = lists_of c.args.self.now in
    record {
      poster = c.poster_of-poster.result;
      inbox = c.poster_of-poster.ensures.inbox;
      number = c.poster_of-poster.ensures.number;
      posted = c.poster_of-poster.ensures.posted;
      put = c.put_at.ensures ∙ ap (λ k. set slots k (option_map (λ posters. set posters c.args.realm (Some c.poster_of-poster.result)) (option_flatten (slice_get slots k)))) (c.seat_index.ensures ∙ ap (λ n. n - 1) (ap seat_of c.conn.ensures ∙ c.poster_of-poster.ensures.number));
    }
