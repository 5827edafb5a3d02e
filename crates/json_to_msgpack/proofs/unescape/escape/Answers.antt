use Rattle.std.proofs.Common.{◌+◌, ◌∷◌, refl, ap, ◌∙◌, arith, drop}
use Rattle.std.proofs.lemmas.Bool.{ne_eqb}
use Rattle.std.proofs.lemmas.Str.{encode_ascii}
use Rattle.json.specs.Text.{after_backslash}
use Rattle.json.specs.Lex.{in_escape}
use Rattle.json_to_msgpack.proofs.Found.{some_weaker}
use Rattle.json_to_msgpack.proofs.Strings.{unicode_escape, short_read, escape_as}
use Rattle.json_to_msgpack.proofs.unescape.escape.Goals as goal

pub returns-then-octet-eq117-clause-read : goal.returns-then-octet-eq117-clause-read
returns-then-octet-eq117-clause-read c =
    let d = c.args.octets.now in
    let i = c.args.at in
    let begins = c.in_ok-octet.ensures.1 ∙ ap (λ x. x ∷ drop (i + 1) d) c.if-octet-eq117.true in
    some_weaker c.unicode.result _ _
    (λ r h. escape_as after_backslash in_escape (drop i d) (117 ∷ drop (i + 1) d) r.0 r.0 (drop r.1 d) (drop r.1 d) begins refl refl (unicode_escape (drop (i + 1) d) (drop r.1 d) r.0 h)) c.unicode.ensures.read

pub returns-clause-read : goal.returns-clause-read
returns-clause-read c =
    let d = c.args.octets.now in
    let i = c.args.at in
    let x = c.in_ok-octet.octet in
    let e = c.in_ok-c.ensures in
    escape_as after_backslash in_escape (drop i d) (x ∷ drop (i + 1) d) c.in_ok-c.c c.in_ok-c.c (drop (i + 1) d) (drop (i + 1) d) c.in_ok-octet.ensures.1 refl refl
    (short_read x c.in_ok-c.c (drop (i + 1) d) (ne_eqb x 117 (λ z. omega (arith, e.1))) e.0 (omega (arith, e.1)) (encode_ascii c.in_ok-c.c e.2))
