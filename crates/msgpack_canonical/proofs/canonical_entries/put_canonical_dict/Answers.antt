use Rattle.std.proofs.Common.{subst}
use Rattle.std.specs.Prelude.{IfSome}
use Rattle.message_tree.specs.Data as tree
use Rattle.msgpack_canonical.specs.body.CanonicalEntries.{AreCanonicalRead}
use Rattle.msgpack_canonical.proofs.CanonicalOrder.{seen-dict}
use Rattle.msgpack_canonical.proofs.canonical_entries.put_canonical_dict.Goals as goal

pub returns-clause-some : goal.returns-clause-some
returns-clause-some c =
    let all = subst (λ o. IfSome o (λ x. AreCanonicalRead c.args.count c.args.octets.now x.0.items x.1.now)) c.in-Some.is c.in_ok-entries.ensures in
    let done = seen-dict c.in-Some.entries.items c.deref.result.now all.found c.in_ok-is_written.is_written c.args.out.now.since c.put_all.new.out.since
    all.are c.deref.ensures.value c.in_ok-is_written.ensures.fits c.in_ok-is_written.ensures.written in
    (tree.dict all.found, all.read c.args.room, done.0, done.1)
