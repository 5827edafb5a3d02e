use Rattle.std.proofs.Common.{sym, ap, length, ◌∙◌}
use Rattle.msgpack_codec.proofs.Members.{item_count-items_view}
use Rattle.msgpack_codec.proofs.encoder.count.Goals as goal

pub returns : goal.returns
returns c = ap length c.as_slice.ensures.value ∙ sym (item_count-items_view c.args.items.now.items)
