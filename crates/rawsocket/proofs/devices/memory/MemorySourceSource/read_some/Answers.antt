use Rattle.std.proofs.Common.{◌≡◌, ◌+◌, ◌∙◌, Some, refl, ap, subst, arith, drop, take, length, min, Option, List, ℕ}
use Rattle.std.specs.Io.KnownBytes.{Consumes}
use Rattle.rawsocket.specs.Devices.{Reading}
use Rattle.rawsocket.proofs.DeviceLemmas.{given_more, left_more, none_left}
use Rattle.rawsocket.proofs.devices.memory.MemorySourceSource.read_some.Goals as goal

pub returns : goal.returns
returns c =
    let i = c.self.inside in
    let n = c.copy_front-count.result in
    let buffer = c.copy_front-count.new.buffer in
    let left_is : c.split_at.result.1.now ≡ drop i.at i.octets.items = c.split_at.ensures.back ∙ ap (drop i.at) c.deref.ensures.value in
    let copied : take n buffer ≡ take n (drop i.at i.octets.items) = c.copy_front-count.ensures.copied ∙ ap (take n) left_is in record {
      name = ap (λ (r : Reading). r.name) c.self.view_is;
      within = omega (arith, c.copy_front-count.ensures.count);
      given = given_more i.octets.items c.args.self.now.given buffer i.at n (ap (λ (r : Reading). r.given) c.self.view_is) copied;
      left = (
        subst (λ (l : Option (List ℕ)). Consumes l (Some (drop (i.at + n) i.octets.items)) (take n buffer)) (ap (λ (r : Reading). r.left) c.self.view_is) (left_more i.octets.items (drop i.at i.octets.items) buffer i.at n refl copied),
        none_left i.octets.items buffer i.at n (c.copy_front-count.ensures.count ∙ ap (λ l. min (length l) (length buffer)) left_is),
      );
      end = cc (c.tells_end.ensures, ap (λ (r : Reading). r.is_ended) c.self.view_is);
      calls = c.tick.ensures ∙ ap (λ (r : Reading). r.calls + 1) c.self.view_is;
      fine = ap (λ (r : Reading). r.failures) c.self.view_is;
      fault = tt;
      failed = tt;
      kept = tt;
      goes_on = tt;
    }
