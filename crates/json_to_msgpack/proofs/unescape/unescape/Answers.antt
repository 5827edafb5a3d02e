use Rattle.std.proofs.Common.{◌≡◌, ◌+◌, ◌-◌, ◌<◌, ◌∷◌, ◌++◌, length, take, drop, ap, ◌∙◌, arith}
use Rattle.std.proofs.lemmas.Grind.{common_steps}
use Rattle.std.proofs.lemmas.Str.{IsCharBoundary-from_drop}
use Rattle.std.specs.Char.{encode_utf8}
use Rattle.std.specs.List.{prefix_len}
use Rattle.std.specs.String.{string_bytes}
use Rattle.json.specs.Text.{after_backslash}
use Rattle.json.specs.Lex.{in_escape}
use Rattle.json.specs.Run.{is_plain}
use Rattle.json_to_msgpack.specs.body.Lexing.{IsEscape}
use Rattle.json_to_msgpack.proofs.Strings.{string_closed, string_escaped, utf8_past}
use Rattle.json_to_msgpack.proofs.unescape.unescape.Goals as goal

pub range-requires-clause-start_boundary : goal.range-requires-clause-start_boundary
range-requires-clause-start_boundary c some = IsCharBoundary-from_drop c.args.text.now c.pieces.at c.pieces.invariant.within c.pieces.invariant.utf8

pub returns-then-end-eq34 : goal.returns-then-end-eq34
returns-then-end-eq34 c =
    let t = c.args.text.now in
    let at = c.pieces.at in
    let stop = c.plain_end-stop.result in
    let same : c.as_bytes-octets.result.now ≡ t = c.as_bytes-octets.ensures.value in
    let is : stop ≡ at + prefix_len is_plain (drop at t) = rw (← same) c.plain_end-stop.ensures.value in
    let inside : stop < length t = rw (← same) c.in-Some.ensures.0 in
    let first : drop stop t ≡ c.in-Some.end ∷ drop (stop + 1) t = rw (← same) c.in-Some.ensures.1 in
    let pushed : string_bytes c.push_str.new.self ≡ string_bytes c.pieces.unescaped ++ take (stop - at) (drop at t) = grind (arith, common_steps) in
    string_closed t c.args.from at stop (string_bytes c.pieces.unescaped) (string_bytes c.push_str.new.self) c.pieces.invariant.so_far is inside (first ∙ ap (λ x. x ∷ drop (stop + 1) t) c.if-end-eq34.true) pushed

pub pieces-preserved : goal.pieces-preserved
pieces-preserved c =
    let t = c.args.text.now in
    let at = c.pieces.at in
    let stop = c.plain_end-stop.result in
    let next = c.in-Some-escape.next in
    let char = c.in-Some-escape.c in
    let same : c.as_bytes-octets.result.now ≡ t = c.as_bytes-octets.ensures.value in
    let is : stop ≡ at + prefix_len is_plain (drop at t) = rw (← same) c.plain_end-stop.ensures.value in
    let inside : stop < length t = rw (← same) c.in-Some.ensures.0 in
    let first : drop stop t ≡ c.in-Some.end ∷ drop (stop + 1) t = rw (← same) c.in-Some.ensures.1 in
    let slash : c.in-Some.end ≡ 92 = grind arith in
    let slashed = first ∙ ap (λ x. x ∷ drop (stop + 1) t) slash in
    let escape : IsEscape after_backslash in_escape (drop (stop + 1) t) char (drop next t) = rw (← same) c.in-Some-escape.ensures.read in
    let pushed : string_bytes c.push.new.self ≡ (string_bytes c.pieces.unescaped ++ take (stop - at) (drop at t)) ++ encode_utf8 char = grind (arith, common_steps) in
    record {
      so_far = string_escaped t c.args.from at stop next char (string_bytes c.pieces.unescaped) (string_bytes c.push.new.self) c.pieces.invariant.so_far is slashed escape pushed;
      utf8 = escape.utf8 (utf8_past t stop 92 c.utf8.text inside slashed (omega arith));
      within = rw (← same) c.in-Some-escape.ensures.bounds.1;
    }
