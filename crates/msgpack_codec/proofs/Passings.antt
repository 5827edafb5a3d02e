-- What is passed over, and what is refused.
use Rattle.std.proofs.Common.{Bool, true, ◌≡◌, ◌≢◌, ℕ, List, [], ◌++◌, Ok, Err, sym, ap, ◌∙◌, subst}
use Rattle.std.proofs.lemmas.List.{append_cancel_right}
use Rattle.message_tree.specs.Data as tree
use Rattle.msgpack_codec.specs.declared.fault.Fault.{Fault}
use Rattle.msgpack_codec.specs.declared.fault.Fault.TheVariants.{TooDeep}
use Rattle.msgpack_codec.specs.declared.carriage.Carriage.{Carriage}
use Rattle.msgpack_codec.specs.Grammar.{Spells, IsDeep}
use Rattle.msgpack_codec.specs.Written.{settled, carriage_of, Writes, IsShortest, IsPassed, IsNoValue}
use Rattle.msgpack_codec.specs.body.Writable.{is_writable}
use Rattle.msgpack_codec.specs.Short.{short}
use Rattle.msgpack_codec.proofs.Depth.{depth_within}
use Rattle.msgpack_codec.proofs.Fine.{spelled_fine, fine_writable}
use Rattle.msgpack_codec.proofs.ShortIsWritten.{short_written}
use Rattle.msgpack_codec.proofs.OneWriting.{one_writing}
use Rattle.msgpack_codec.specs.body.Decoder.{value_at}
use Rattle.msgpack_codec.specs.body.Passing.{IsFullyJudged, written_at}
use Rattle.msgpack_codec.proofs.ReadIsSpelled.{value_found}
use Rattle.msgpack_codec.proofs.SpelledIsRead.{value_again}
use Rattle.msgpack_codec.proofs.TooDeep.{deep_found, deep_again}
use Rattle.msgpack_codec.proofs.WrittenIsRead.{as_settled, value_settles}
use Rattle.msgpack_codec.proofs.WrittenPairs.{written_found}
use Rattle.msgpack_codec.proofs.Settled.{settled_carried, settled_uncarried, writable_settled, writable_carried, writable_short}

-- what is written as `encode` writes it has no key twice
written-shortest : (d : tree.Data) (front : List ℕ) → (is_writable d ≡ true) × (front ≡ short d) → IsShortest front (settled d)
written-shortest d front (writable, same) =
    let is = writable_settled d writable in
    subst (λ x. IsShortest front x) (sym is) (record { is_carried = writable_carried d writable; has_short = writable_short d writable; is_short = same })

-- and nothing else is written for what has settled, so that none had to settle
shortest-written : (room : ℕ) (d : tree.Data) (front : List ℕ) → Spells room front (settled d) → Writes room front d → IsShortest front (settled d) → (is_writable d ≡ true) × (front ≡ short d)
shortest-written room d front spelled written shortest =
    let fine = spelled_fine room front (settled d) spelled in
    let again = short_written (settled d) room fine shortest.is_carried shortest.has_short (depth_within room front (settled d) spelled) in
    let same : d ≡ settled d = (one_writing room front (short (settled d)) [] [] d (settled d) written again (ap (λ (o : List ℕ). o ++ []) shortest.is_short)).0 in
    subst (λ x. (is_writable x ≡ true) × (front ≡ short x)) (sym same) (fine_writable (settled d) fine shortest.is_carried shortest.has_short, shortest.is_short)

pub passed-over : (room : ℕ) (octets : List ℕ) (d : tree.Data) (rest : List ℕ) (carriage : Carriage) (is_shortest : Bool) → written_at room octets ≡ Ok (d, rest) → carriage ≡ carriage_of d → IsFullyJudged (written_at room octets) octets rest is_shortest
    → IsPassed room octets rest carriage is_shortest
passed-over room octets d rest carriage is_shortest e told judged =
    let w = written_found room octets d rest e in
    let read : value_at room octets ≡ Ok (settled d, rest) = value_settles room octets ∙ ap as_settled e in
    let s = value_found room octets (settled d) rest read in
    let one : s.0 ≡ w.0 = append_cancel_right s.0 w.0 rest (sym s.1 ∙ w.1) in
    let judgement = judged d w.0 e w.1 in
    record {
      front = w.0;
      written = d;
      parts = w.1;
      spelled = subst (λ f. Spells room f (settled d)) one s.2;
      by_pairs = w.2;
      told = told;
      carried = λ is. settled_carried d (sym told ∙ is);
      uncarried = λ is. settled_uncarried d (sym told ∙ is);
      least = λ is. written-shortest d w.0 (judgement.is is);
      other = λ is shortest.
          let spelled = subst (λ f. Spells room f (settled d)) one s.2 in
          let h = shortest-written room d w.0 spelled w.2 shortest in
          let so = judgement.of h.0 h.1 in
          cc;
    }

pub refused_deep : (room : ℕ) (octets : List ℕ) → written_at room octets ≡ Err TooDeep → IsDeep room octets
refused_deep room octets e = deep_found room octets (value_settles room octets ∙ ap as_settled e)

pub refused_otherwise : (room : ℕ) (octets : List ℕ) (fault : Fault) → written_at room octets ≡ Err fault → fault ≢ TooDeep → IsNoValue room octets
refused_otherwise room octets fault e other =
    let read : value_at room octets ≡ Err fault = value_settles room octets ∙ ap as_settled e in
    record {
      unspelled = λ front rest d parts s. let again = value_again room front d rest s in let same = sym read ∙ ap (value_at room) parts ∙ again in cc;
      shallow = λ deep. let again = sym read ∙ deep_again room octets deep in other (cc);
    }
