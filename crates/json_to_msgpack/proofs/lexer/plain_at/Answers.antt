use Rattle.std.proofs.Common.{◌≡◌, ◌+◌, ◌<◌, ◌∷◌, [], length, drop, ap, ◌∙◌, arith}
use Rattle.std.proofs.lemmas.Str.{IsCharBoundary-from_drop}
use Rattle.std.specs.List.{prefix_len}
use Rattle.std.specs.Str.{IsUtf8}
use Rattle.json.specs.Run.{is_plain}
use Rattle.json_to_msgpack.proofs.Strings.{nothing_read, string_closed, utf8_past}
use Rattle.json_to_msgpack.proofs.lexer.plain_at.Goals as goal

pub range-requires-clause-start_boundary : goal.range-requires-clause-start_boundary
range-requires-clause-start_boundary c some =
    let t = c.args.text.now in
    let at = c.args.at in
    let same = c.as_bytes-octets.ensures.value in
    let inside : at < length t = rw (← same) c.in-Some-eq34.ensures.0 in
    let first : drop at t ≡ c.in-Some-eq34.field-0 ∷ drop (at + 1) t = rw (← same) c.in-Some-eq34.ensures.1 in
    let behind : IsUtf8 (drop (at + 1) t) = utf8_past t at c.in-Some-eq34.field-0 c.utf8.text inside first (omega arith) in
    IsCharBoundary-from_drop t (at + 1) (omega arith) behind

pub returns : goal.returns
returns c =
    let t = c.args.text.now in
    let at = c.args.at in
    let from = at + 1 in
    let stop = c.plain_end-stop.result in
    let same = c.as_bytes-octets.ensures.value in
    let first : drop at t ≡ c.in-Some-eq34.field-0 ∷ drop (at + 1) t = rw (← same) c.in-Some-eq34.ensures.1 in
    let begun : c.in-Some-eq34.field-0 ≡ 34 = omega arith in
    let is : stop ≡ from + prefix_len is_plain (drop from t) = rw (← same) c.plain_end-stop.ensures.value in
    let inside : stop < length t = rw (← same) c.in-Some-eq34-octet_at.ensures.0 in
    let last : drop stop t ≡ c.in-Some-eq34-octet_at.field-0 ∷ drop (stop + 1) t = rw (← same) c.in-Some-eq34-octet_at.ensures.1 in
    let close : c.in-Some-eq34-octet_at.field-0 ≡ 34 = omega arith in (
      first ∙ ap (λ x. x ∷ drop (at + 1) t) begun,
      string_closed t from from stop [] c.range.result.now (nothing_read (drop from t)) is inside (last ∙ ap (λ x. x ∷ drop (stop + 1) t) close) c.range.ensures.value,
    )
