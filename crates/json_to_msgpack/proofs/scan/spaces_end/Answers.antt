use Rattle.std.proofs.Common.{◌≡◌, get_or, drop, true, sym, ◌∙◌, subst, inl, inr, arith}
use Rattle.std.proofs.lemmas.Bool.{cases_lt}
use Rattle.json.specs.Word.{ends_word}
use Rattle.json.specs.Lex.{class}
use Rattle.json.specs.Align.{is_blank}
use Rattle.json_to_msgpack.proofs.Octets.{space_passed, space_ends}
use Rattle.json_to_msgpack.proofs.scan.spaces_end.Goals as goal

pub spaces-preserved : goal.spaces-preserved
spaces-preserved c =
    let t = c.args.octets.now in
    let l = c.spaces in
    let blank : is_blank (class (get_or t l.at 0)) ≡ true = sym c.is_space.ensures ∙ c.if-is_space.true in
    let inside = c.spaces-test.true in
    let so_far = l.invariant in
    record {
      same = space_passed t l.at inside blank ∙ so_far.same;
      ends = λ h. elim (cases_lt c.args.from l.at) [
        | inl a ↦ so_far.ends a
        | inr a ↦ let here : l.at ≡ c.args.from = omega (arith, so_far.forward) in subst (λ i. ends_word (drop i t) ≡ true) here (space_ends t l.at inside blank)
      ];
      forward = omega (arith, so_far.forward);
      within = omega arith;
    }
