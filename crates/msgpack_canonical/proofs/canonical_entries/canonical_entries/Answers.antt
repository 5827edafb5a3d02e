use Rattle.std.proofs.Common.{◌≡◌, ◌-◌, true, refl, sym, ap, ◌∙◌, arith}
use Rattle.message_tree.specs.Data as tree
use Rattle.msgpack_codec.specs.body.Decoder.{value_at, dict_at}
use Rattle.msgpack_codec.proofs.Loops.{one-left, none-left, entry-read, dict-read}
use Rattle.msgpack_canonical.proofs.CanonicalOrder.{seen-none, seen-put}
use Rattle.msgpack_canonical.proofs.canonical_entries.canonical_entries.Goals as goal

pub loop-init : goal.loop-init
loop-init c = record {
  found = tree.no_entries;
  read = λ room. let e : c.args.count - 0 ≡ c.args.count = omega arith in ap (λ n. dict_at (value_at room) n tree.no_entries true c.args.octets.now) e;
  are = seen-none c.in_ok-entries.entries.items c.in_ok-entries.ensures.items;
}

pub loop-preserved : goal.loop-preserved
loop-preserved c =
    let l = c.loop in
    let i = l.invariant in
    let entry = c.in-Some.entry in
    let put = c.in-Some.ensures.seen in
    let key = tree.text entry.key.now in
    record {
      found = tree.put entry.key.now put.meant i.found;
      read = λ room. entry-read (value_at room) _ i.found true l.rest.now key put.meant put.middle c.in-Some.behind.now (put.key_read room) (put.value_read room)
          ∙ (one-left (λ n. dict_at (value_at room) n i.found true l.rest.now) c.args.count l.counter c.loop-test.true ∙ i.read room);
      are = seen-put entry entry.key.now put.meant refl put.least put.short_key put.fit l.entries.items c.put_among.new.entries.items i.found c.in_ok-put_among.ensures i.are;
    }

pub returns : goal.returns
returns c =
    let l = c.loop in
    let i = l.invariant in
    record {
      found = i.found;
      read = λ room. sym (dict-read (value_at room) i.found true l.rest.now ∙ (none-left (λ n. dict_at (value_at room) n i.found true l.rest.now) c.args.count l.counter c.loop-test.false ∙ i.read room));
      are = i.are;
    }
