use Rattle.std.proofs.Common.{[], sym}
use Rattle.std.proofs.lemmas.List.{append-nil}
use Rattle.msgpack_codec.specs.body.Decoder.{value_at}
use Rattle.msgpack_canonical.proofs.Dicts.{key-unread, value-unread}
use Rattle.msgpack_canonical.proofs.writing.pass_entry.Goals as goal

pub returns-in_default-clause-none : goal.returns-in_default-clause-none
returns-in_default-clause-none c = key-unread (value_at c.args.room) c.args.octets.now c.in_default.ensures.none

pub returns-in_default-behind-clause-none : goal.returns-in_default-behind-clause-none
returns-in_default-behind-clause-none c =
    let key = c.in-Some.ensures.some in
    value-unread (value_at c.args.room) c.args.octets.now key.0 c.in-Some.value.now key.1 c.in_default-behind.ensures.none

pub returns-clause-some : goal.returns-clause-some
returns-clause-some c = λ nay.
    let key = c.in-Some.ensures.some in
    let value = c.in-Some-behind.ensures.some in
    record {
      key = key.0;
      middle = c.in-Some.value.now;
      meant = value.0;
      more = [];
      key_read = key.1;
      value_read = value.1;
      text = sym (nay key.0 c.in-Some.value.now key.1);
      added = sym (append-nil c.args.written.items);
      entry = λ s is. let none = nay key.0 c.in-Some.value.now key.1 in absurd cc;
    }
