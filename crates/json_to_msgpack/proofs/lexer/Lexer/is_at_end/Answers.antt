use Rattle.std.proofs.Common.{drop, sym, ◌∙◌, arith}
use Rattle.std.proofs.lemmas.Bool.{eqb-true}
use Rattle.std.proofs.lemmas.List.{drop_all}
use Rattle.json_to_msgpack.proofs.Punctuated.{no_tokens}
use Rattle.json_to_msgpack.proofs.lexer.Lexer.is_at_end.Goals as goal

pub returns-then-is_complete : goal.returns-then-is_complete
returns-then-is_complete c e =
    let a = c.self.inside in
    let over = eqb-true _ _ e in
    sym c.self.view_is ∙ no_tokens a.place (drop a.at a.text.now) (sym c.is_complete.ensures ∙ c.if-is_complete.true) (drop_all a.at a.text.now (omega arith))
