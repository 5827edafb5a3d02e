use Rattle.std.proofs.Common.{sym, subst}
use Rattle.msgpack_canonical.specs.body.CanonicalEntries.{IsCanonicalEntry}
use Rattle.msgpack_canonical.proofs.CanonicalEntries.{least-front, least-split, least-put, least-seen}
use Rattle.msgpack_canonical.proofs.canonical_entries.canonical_entry.Goals as goal

pub returns-clause-put : goal.returns-clause-put
returns-clause-put c = λ room old.
    let octets = c.args.octets.now in
    let key = c.in-Some.key.now in
    let middle = c.in-Some.value.now in
    let rest = c.in-Some-behind_canonical.rest.now in
    let parts = c.in-Some.ensures.spelled in
    let utf8 = c.in-Some.ensures.utf8 in
    let few = c.in-Some.ensures.few in
    let least = c.in-Some-behind_canonical.ensures in
    least-put octets key middle rest parts utf8 few least c.front_of.result.now
    (c.front_of.ensures (least-front octets key middle rest parts utf8 few least) (least-split octets key middle rest parts utf8 few least)) room old

pub returns-clause-seen : goal.returns-clause-seen
returns-clause-seen c =
    let octets = c.args.octets.now in
    let key = c.in-Some.key.now in
    let middle = c.in-Some.value.now in
    let rest = c.in-Some-behind_canonical.rest.now in
    let parts = c.in-Some.ensures.spelled in
    let utf8 = c.in-Some.ensures.utf8 in
    let few = c.in-Some.ensures.few in
    let least = c.in-Some-behind_canonical.ensures in
    subst (λ k. IsCanonicalEntry octets k c.front_of.result.now rest) (sym c.as_bytes.ensures.value)
    (least-seen octets key middle rest parts utf8 few least c.front_of.result.now
    (c.front_of.ensures (least-front octets key middle rest parts utf8 few least) (least-split octets key middle rest parts utf8 few least)))
