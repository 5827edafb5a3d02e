use Rattle.std.proofs.Common.{◌≡◌, ℕ, ◌+◌, ◌*◌, ◌<◌, Bool, true, ◌&&◌, cond, ltb, Some, None, get_or, ap, ◌∙◌, arith}
use Rattle.std.proofs.lemmas.Bool.{lt-ltb}
use Rattle.json.specs.Text.{code_unit}
use Rattle.json_to_msgpack.proofs.Octets.{four_at}
use Rattle.json_to_msgpack.proofs.unescape.unit_at.Goals as goal

by_sixteens : (a b c d : ℕ) → a * 4096 + b * 256 + c * 16 + d ≡ ((a * 16 + b) * 16 + c) * 16 + d
by_sixteens a b c d = omega arith

if_true : (x y z w : Bool) (n : ℕ) → x ≡ true → y ≡ true → z ≡ true → w ≡ true → cond (((x && y) && z) && w) (Some n) None ≡ Some n
if_true x y z w n e f g h = ap (λ (b : Bool). cond (((b && y) && z) && w) (Some n) None) e ∙ ap (λ (b : Bool). cond ((b && z) && w) (Some n) None) f ∙ ap (λ (b : Bool). cond (b && w) (Some n) None) g ∙ ap (λ (b : Bool). cond b (Some n) None) h

all_below : (a b c d n : ℕ) → a < 16 → b < 16 → c < 16 → d < 16 → cond (((ltb a 16 && ltb b 16) && ltb c 16) && ltb d 16) (Some n) None ≡ Some n
all_below a b c d n e f g h = if_true (ltb a 16) (ltb b 16) (ltb c 16) (ltb d 16) n (lt-ltb a 16 e) (lt-ltb b 16 f) (lt-ltb c 16 g) (lt-ltb d 16 h)

pub returns-clause-spelled : goal.returns-clause-spelled
unfolding code_unit
returns-clause-spelled c =
    let d = c.args.octets.now in
    let i = c.args.at in
    let one = c.digit-a.result in
    let two = c.digit-b.result in
    let three = c.digit-c.result in
    let four = c.digit-d.result in
    let unit : code_unit (get_or d i 0) (get_or d (i + 1) 0) (get_or d (i + 2) 0) (get_or d (i + 3) 0) ≡ Some (one * 4096 + two * 256 + three * 16 + four) = rw (← c.digit-a.ensures, ← c.digit-b.ensures, ← c.digit-c.ensures, ← c.digit-d.ensures) (all_below one two three four _ c.if-a-ge16.false c.if-b-ge16.false c.if-c-ge16.false c.if-d-ge16.false) in
    record {
      a = get_or d i 0;
      b = get_or d (i + 1) 0;
      c = get_or d (i + 2) 0;
      d = get_or d (i + 3) 0;
      octets = four_at d i (omega arith);
      spelled = unit ∙ ap Some (by_sixteens one two three four);
    }
