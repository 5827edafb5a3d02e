use Rattle.std.proofs.Common.{map, set, ap, ◌∙◌}
use Rattle.std.proofs.lemmas.List.{map-set}
use Rattle.std.proofs.lemmas.Option.{get_or_from_slice_get}
use Rattle.threaded_server.proofs.Places.{get_of_map}
use Rattle.threaded_server.specs.Realms.{shown, with_seen}
use Rattle.threaded_server.proofs.realms.Realms.keep.Goals as goal

pub returns : goal.returns
returns g c =
    let handles = c.args.self.now.handles.items in
    let place = c.args.seen.realm in
    let now = c.index_mut-handle.result.now in
    let h = get_of_map shown handles place c.requires.realm c.requires.at in
    let same = c.index_mut-handle.ensures.value ∙ get_or_from_slice_get handles place h.0 now h.1 in
    record {
      realm = c.requires.realm;
      at = c.requires.at;
      kept = map-set shown handles place c.keep.new.self ∙ ap (set (map shown handles) place) (c.keep.ensures ∙ ap (λ r. with_seen r c.args.seen.history) (ap shown same ∙ h.2));
    }
