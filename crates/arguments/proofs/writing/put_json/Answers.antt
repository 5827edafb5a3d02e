use Rattle.std.proofs.Common.{◌++◌, [], true, false, sym, ap, ◌∙◌, subst}
use Rattle.msgpack_to_json.specs.Standing.{Stands}
use Rattle.rawsocket.specs.declared.handshake.Serializer.TheVariants.{Json}
use Rattle.arguments.specs.Arguments.{last_items}
use Rattle.arguments.specs.Endings.{further}
use Rattle.arguments.specs.body.KeptArguments.{AreWritten, behind_args, first_in, second_in, written_in}
use Rattle.arguments.proofs.Written.{first_stands, second_stands, json_of_one, json_of_two}
use Rattle.arguments.proofs.writing.put_json.Goals as goal

pub put_one_json-requires : goal.put_one_json-requires
put_one_json-requires c = (first_in c.args.octets.now, behind_args c.args.octets.now c.args.has_kwargs, first_stands c.args.octets.now c.args.has_kwargs c.requires)

pub put_one_json-requires-then-has_kwargs : goal.put_one_json-requires-then-has_kwargs
put_one_json-requires-then-has_kwargs c =
    let o = c.args.octets.now in
    let w = subst (AreWritten o) c.if-has_kwargs.true c.requires in
    let one = c.in_ok-rest.ensures.ok (first_in o) (behind_args o true) (first_stands o true w) in
    (second_in o, [], subst (λ x. Stands x [] (second_in o)) (sym one.0) (second_stands o w))

pub returns-in_ok-put_one_json-clause-ok : goal.returns-in_ok-put_one_json-clause-ok
returns-in_ok-put_one_json-clause-ok c =
    let o = c.args.octets.now in
    let w = subst (AreWritten o) c.if-has_kwargs.true c.requires in
    let one = c.in_ok-rest.ensures.ok (first_in o) (behind_args o true) (first_stands o true w) in
    let two = c.in_ok-put_one_json.ensures.ok (second_in o) [] (subst (λ x. Stands x [] (second_in o)) (sym one.0) (second_stands o w)) in
    json_of_two (first_in o) (second_in o) c.args.out.now.since c.put_one_json.new.out.since c.put_one_json-then-has_kwargs.new.out.since one.1 two.1
    ∙ ap (λ b. c.args.out.now.since ++ further Json (last_items (written_in o b).args (written_in o b).kwargs)) (sym c.if-has_kwargs.true)

pub returns-else-has_kwargs-clause-ok : goal.returns-else-has_kwargs-clause-ok
returns-else-has_kwargs-clause-ok c =
    let o = c.args.octets.now in
    let w = subst (AreWritten o) c.if-has_kwargs.false c.requires in
    let one = c.in_ok-rest.ensures.ok (first_in o) (behind_args o false) (first_stands o false w) in
    json_of_one (first_in o) c.args.out.now.since c.put_one_json.new.out.since one.1
    ∙ ap (λ b. c.args.out.now.since ++ further Json (last_items (written_in o b).args (written_in o b).kwargs)) (sym c.if-has_kwargs.false)
