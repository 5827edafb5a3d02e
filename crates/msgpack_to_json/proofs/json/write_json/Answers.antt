use Rattle.std.proofs.lemmas.Result.{IfOk-weaker}
use Rattle.msgpack_to_json.proofs.Tokens.{stands-passed}
use Rattle.msgpack_to_json.proofs.json.write_json.Goals as goal

pub returns-clause-ok : goal.returns-clause-ok
returns-clause-ok c = IfOk-weaker c.write_any_value.result _ _ (λ rest is d after s. is d after (stands-passed c.args.octets.now after d s) s.carried) c.write_any_value.ensures.ok

pub returns-clause-fault : goal.returns-clause-fault
returns-clause-fault c = λ is d after s. c.write_any_value.ensures.fault is d after (stands-passed c.args.octets.now after d s) s.carried
