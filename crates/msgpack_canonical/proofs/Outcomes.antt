-- What was passed over, and then written or not.
use Rattle.std.proofs.Common.{◌≡◌, ℕ, List, [], ◌++◌, Bool, Ok, sym, ap, ◌∙◌}
use Rattle.std.proofs.lemmas.List.{append-nil}
use Rattle.message_tree.specs.Data as tree
use Rattle.msgpack_codec.specs.declared.carriage.Carriage.{Carriage}
use Rattle.msgpack_codec.specs.Grammar.{Spells}
use Rattle.msgpack_codec.specs.Short.{short}
use Rattle.msgpack_codec.specs.Written.{IsPassed, settled}
use Rattle.msgpack_codec.specs.body.Decoder.{value_at}
use Rattle.msgpack_codec.proofs.ReadIsSpelled.{found-is}
use Rattle.msgpack_codec.proofs.SpelledIsRead.{value_again}
use Rattle.msgpack_canonical.specs.Canonical.{IsCanonicalized, IsValue}
use Rattle.msgpack_canonical.specs.body.Fitting.{fits, IsPut, IsUnread}
use Rattle.msgpack_canonical.proofs.Fits.{fits-both, both-fit}

passed-read : (room : ℕ) (octets rest : List ℕ) (carriage : Carriage) (is_shortest : Bool) (p : IsPassed room octets rest carriage is_shortest) → value_at room octets ≡ Ok (settled p.written, rest)
passed-read room octets rest carriage is_shortest p = ap (value_at room) p.parts ∙ value_again room p.front (settled p.written) rest p.spelled

-- the octets begin with this value, which was written or not
outcome : (room : ℕ) (octets front rest : List ℕ) (meant : tree.Data) (left : List ℕ) (b : Bool) (old new : List ℕ) → octets ≡ front ++ rest → Spells room front meant → value_at room octets ≡ Ok (meant, rest)
    → IsPut (value_at room octets) left b old new → IsCanonicalized room octets rest b old new
outcome room octets front rest meant left b old new parts spelled read put =
    let same : put.0 ≡ meant = (found-is put.0 meant left rest (sym put.1 ∙ read)).0 in
    let fit : fits meant ≡ b = ap fits (sym same) ∙ sym put.2 in
    record {
      front = front;
      meant = meant;
      parts = parts;
      spelled = spelled;
      carried = λ is. (fits-both meant (fit ∙ is)).0;
      fits = λ is. (fits-both meant (fit ∙ is)).1;
      written = λ is. put.3 is ∙ ap (λ d. old ++ short d) same;
      refused = λ is carried short.
          let yea = both-fit meant carried short in
          let nay = fit ∙ is in
          cc;
    }

pub is-put : (room : ℕ) (octets rest : List ℕ) (carriage : Carriage) (is_shortest : Bool) (left : List ℕ) (b : Bool) (old new : List ℕ) → IsPut (value_at room octets) left b old new → IsPassed room octets rest carriage is_shortest
    → IsCanonicalized room octets rest b old new
is-put room octets rest carriage is_shortest left b old new put p =
    outcome room octets p.front rest (settled p.written) left b old new p.parts p.spelled (passed-read room octets rest carriage is_shortest p) put

-- the octets are one value

alone : (room : ℕ) (octets : List ℕ) (d : tree.Data) → Spells room octets d → value_at room octets ≡ Ok (d, [])
alone room octets d s = ap (value_at room) (sym (append-nil octets)) ∙ value_again room octets d [] s

pub value-put : (room : ℕ) (octets left : List ℕ) (b : Bool) (old new : List ℕ) → IsValue room octets → IsPut (value_at room octets) left b old new → IsCanonicalized room octets [] b old new
value-put room octets left b old new v put =
    outcome room octets octets [] v.0 left b old new (sym (append-nil octets)) v.1 (alone room octets v.0 v.1) put

pub value-is-read : (room : ℕ) (octets : List ℕ) → IsUnread (value_at room octets) → IsValue room octets → ⊥
value-is-read room octets none v = none v.0 [] (alone room octets v.0 v.1)

-- what was passed over is read
pub passed-is-read : (room : ℕ) (octets rest : List ℕ) (carriage : Carriage) (is_shortest : Bool) → IsUnread (value_at room octets) → IsPassed room octets rest carriage is_shortest → ⊥
passed-is-read room octets rest carriage is_shortest none p = none (settled p.written) rest (passed-read room octets rest carriage is_shortest p)
