use Rattle.std.proofs.Common.{true, false, sym, ap}
use Rattle.std.proofs.lemmas.Result.{on_ok_weaker}
use Rattle.message_tree.specs.Data.{flag}
use Rattle.msgpack_codec.proofs.ShortIsSpelled.{flag_spelled}
use Rattle.json_to_msgpack.proofs.LeafSpellings.{short_added}
use Rattle.json_to_msgpack.proofs.leaves.put_flag.Goals as goal

pub returns-then-value : goal.returns-then-value
returns-then-value c =
    on_ok_weaker c.put.result (λ e. short_added (flag true) (flag c.args.value) c.args.out.now.items c.put.new.out.items (ap flag (sym c.if-value.true)) (λ room. flag_spelled room c.args.value) e) c.put.ensures

pub returns-else-value : goal.returns-else-value
returns-else-value c =
    on_ok_weaker c.put-else-value.result (λ e. short_added (flag false) (flag c.args.value) c.args.out.now.items c.put-else-value.new.out.items (ap flag (sym c.if-value.false)) (λ room. flag_spelled room c.args.value) e) c.put-else-value.ensures
