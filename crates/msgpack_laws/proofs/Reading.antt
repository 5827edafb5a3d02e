-- One value: what is read of it is what a front spells.
use Rattle.std.proofs.Common.{◌≡◌, ◌≢◌, ◌↔◌, ◌+◌, ℕ, zero, suc, List, [], ◌++◌, Ok, Err, refl, sym, ap, ◌∙◌, subst, arith}
use Rattle.std.proofs.lemmas.List.{append-nil, append_cancel_right}
use Rattle.message_tree.specs.Data as tree
use Rattle.msgpack_codec.specs.Grammar.{IsDeep, Spells}
use Rattle.msgpack_codec.specs.Written.{IsNoValue}
use Rattle.msgpack_codec.specs.body.Decoder.{Found, value_at}
use Rattle.msgpack_codec.specs.declared.fault.Fault.{Fault}
use Rattle.msgpack_codec.specs.declared.fault.Fault.TheVariants.{TooDeep}
use Rattle.msgpack_codec.proofs.MoreRoom.{more_room}
use Rattle.msgpack_codec.proofs.ReadIsSpelled.{value_found}
use Rattle.msgpack_codec.proofs.SpelledIsRead.{value_again, one_spelling}
use Rattle.msgpack_codec.proofs.TooDeep.{deep_found, deep_again}
use Rattle.msgpack_cursor.specs.Standing.{value_of, rest_of, value_in, rest_in, IsValue}
use Rattle.msgpack_cursor.proofs.Readings.{value-read, rest-read, whole-value, value-spelled}
use Rattle.msgpack_laws.specs.Spelled.{Stands, NoneStands}

pub read-stands : (room : ℕ) (octets rest : List ℕ) (d : tree.Data) → (value_at room octets ≡ Ok (d, rest)) ↔ Stands room octets d rest
read-stands room octets rest d = (λ e. value_found room octets d rest e, λ s. ap (value_at room) s.1 ∙ value_again room s.0 d rest s.2)

roomier : (extra room : ℕ) (octets : List ℕ) (d : tree.Data) → Spells room octets d → Spells (extra + room) octets d
roomier zero room octets d s =
    let same : room ≡ zero + room = omega arith in
    subst (λ n. Spells n octets d) same s
roomier (suc extra) room octets d s =
    let same : suc (extra + room) ≡ suc extra + room = omega arith in
    subst (λ n. Spells n octets d) same (more_room (extra + room) octets d (roomier extra room octets d s))

pub one-front : (room more : ℕ) (front other rest left : List ℕ) (d e : tree.Data) → Spells room front d → Spells more other e
    → front ++ rest ≡ other ++ left → (front ≡ other) × (d ≡ e) × (rest ≡ left)
one-front room more front other rest left d e s t same =
    let swapped : room + more ≡ more + room = omega arith in
    let second = subst (λ n. Spells n other e) swapped (roomier room more other e t) in
    let one = one_spelling (more + room) front other rest left d e (roomier more room front d s) second same in
    (append_cancel_right front other left (ap (λ (r : List ℕ). front ++ r) (sym one.1) ∙ same), one.0, one.1)

pub deep-refused : (room : ℕ) (octets : List ℕ) → (value_at room octets ≡ Err TooDeep) ↔ IsDeep room octets
deep-refused room octets = (λ e. deep_found room octets e, λ h. deep_again room octets h)

-- another fault than that it is too deep
abbrev Else : ℕ → List ℕ → Type 0
Else room octets = (fault : Fault) × (fault ≢ TooDeep) × (value_at room octets ≡ Err fault)

none-found : (room : ℕ) (octets : List ℕ) → IsNoValue room octets → Else room octets
none-found room octets none = at (value_at room octets) refl
  where
    at : (x : Found tree.Data) → value_at room octets ≡ x → Else room octets
    at (Ok p) e = let f = value_found room octets p.0 p.1 e in absurd (none.unspelled f.0 p.1 p.0 f.1 f.2)
    at (Err fault) e = (fault, λ is. none.shallow (deep_found room octets (e ∙ ap Err is)), e)

pub else-none : (room : ℕ) (octets : List ℕ) → Else room octets ↔ IsNoValue room octets
else-none room octets = (
  λ other. record {
    unspelled = λ front rest d parts s. let again = sym other.2 ∙ (read-stands room octets rest d).1 (front, parts, s) in cc;
    shallow = λ deep. let again = sym other.2 ∙ deep_again room octets deep in other.1 (cc);
  },
  none-found room octets,
)

-- ---- what is seen

pub front-seen : (room : ℕ) (octets rest : List ℕ) (d : tree.Data) → Stands room octets d rest
    → (value_in room octets ≡ d) × (rest_in room octets ≡ rest)
front-seen room octets rest d s =
    let read = (read-stands room octets rest d).1 s in
    (value-read room octets d rest read, rest-read room octets d rest read)

pub nothing-seen : (room : ℕ) (octets : List ℕ) → NoneStands room octets → (value_in room octets ≡ tree.null) × (rest_in room octets ≡ [])
unfolding value_in rest_in
nothing-seen room octets none = at (value_at room octets) refl
  where
    at : (x : Found tree.Data) → value_at room octets ≡ x → (value_of x ≡ tree.null) × (rest_of x ≡ [])
    at (Ok p) e = absurd (none p.0 p.1 (value_found room octets p.0 p.1 e))
    at (Err fault) e = (refl, refl)

pub value-spells : (room : ℕ) (octets : List ℕ) (d : tree.Data) → (IsValue room octets × (value_in room octets ≡ d)) ↔ Spells room octets d
value-spells room octets d = (
  λ is. subst (λ v. Spells room octets v) is.1 (value-spelled room octets is.0),
  λ s.
      let read : value_at room octets ≡ Ok (d, []) = ap (value_at room) (sym (append-nil octets)) ∙ value_again room octets d [] s in
      (whole-value room octets d read, value-read room octets d [] read),
)
