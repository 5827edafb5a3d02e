-- A value that octets spell, also with more room.
use Rattle.std.proofs.Common.{◌≡◌, ◌≤◌, ℕ, zero, suc, List, [], inl, inr, refl, sym, subst, arith}
use Rattle.std.proofs.lemmas.Bool.{cases_lt}
use Rattle.std.proofs.lemmas.List.{append-nil}
use Rattle.message_tree.specs.Data as tree
use Rattle.msgpack_codec.specs.Grammar.{IsDeep, Spells}
use Rattle.msgpack_codec.specs.Written.{IsNoValue}
use Rattle.msgpack_codec.proofs.MoreRoom.{more_room}
use Rattle.msgpack_codec.proofs.SpelledIsNotDeep.{spelled-not-deep}
use Rattle.msgpack_codec.proofs.SpelledIsRead.{one_spelling}

rooms : (target room : ℕ) (octets : List ℕ) (d : tree.Data) → room ≤ target → Spells room octets d → Spells target octets d
rooms zero room octets d le s = let e : room ≡ 0 = omega (arith, le) in subst (λ n. Spells n octets d) e s
rooms (suc target) room octets d le s =
    elim (cases_lt room (suc target)) [
      | inl a ↦ more_room target octets d (rooms target room octets d (omega (arith, a)) s)
      | inr a ↦ let e : room ≡ suc target = omega (arith, a, le) in subst (λ n. Spells n octets d) e s
    ]

-- with the room of a message
pub in_message : (room : ℕ) (octets : List ℕ) (d : tree.Data) → room ≤ 100 → Spells room octets d → Spells 100 octets d
in_message room octets d le s = rooms 100 room octets d le s

pub same_value : (room : ℕ) (octets : List ℕ) (d e : tree.Data) → Spells room octets d → Spells room octets e → d ≡ e
same_value room octets d e s t = (one_spelling room octets octets [] [] d e s t refl).0

-- a value is there
pub not_deep : (room : ℕ) (octets : List ℕ) (d : tree.Data) → Spells room octets d → IsDeep room octets → ⊥
not_deep room octets d s deep = spelled-not-deep room octets d s deep

pub not_missing : (room : ℕ) (octets : List ℕ) (d : tree.Data) → Spells room octets d → IsNoValue room octets → ⊥
not_missing room octets d s none = none.unspelled octets [] d (sym (append-nil octets)) s
