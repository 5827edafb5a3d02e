-- What fronts of octets spell, by the grammar alone: values one behind the other, and keys with their values. Behind them stands the rest.
use Rattle.std.specs.Prelude.{◌≡◌, ℕ, List, ◌++◌, length, map, true}
use Rattle.message_tree.specs.Data as tree
use Rattle.message_tree.specs.View.{items_of}
use Rattle.msgpack_codec.specs.Grammar.{AreSpelled, ArePairsSpelled, map_from, Spells}

-- a front spells the value, with so much room to nest in, and this rest stands behind it
abbrev pub Stands : ℕ → List ℕ → tree.Data → List ℕ → Type 0
Stands room octets d rest = (front : List ℕ) × (octets ≡ front ++ rest) × Spells room front d

-- no front spells a value
abbrev pub NoneStands : ℕ → List ℕ → Type 0
NoneStands room octets = (d : tree.Data) (rest : List ℕ) → Stands room octets d rest → ⊥

-- the octets spell so many values, one behind the other, and these; nothing stands behind them
abbrev pub AreWhole : ℕ → ℕ → List ℕ → tree.Items → Type 0
AreWhole room n octets ds =
    (values : List tree.Data) × (length values ≡ n) × (items_of values ≡ ds) × AreSpelled (Spells room) octets values

-- a front spells so many values, one behind the other, and these
abbrev pub AreStanding : ℕ → ℕ → List ℕ → tree.Items → Type 0
AreStanding room n octets ds = (front rest : List ℕ) × (octets ≡ front ++ rest) × AreWhole room n front ds

-- a front spells so many keys, each with its value behind it; they make this map: the last value of a key stays, and one key that is no text makes all uncarried
abbrev pub MapStands : ℕ → ℕ → List ℕ → tree.Data → List ℕ → Type 0
MapStands room n octets d rest =
    (front : List ℕ) × (pairs : List (tree.Data × tree.Data)) × (octets ≡ front ++ rest) × (length pairs ≡ n)
    × ArePairsSpelled (Spells room) front pairs × (map_from tree.no_entries true pairs ≡ d)

-- a front spells these texts, each with its value behind it, in this order
abbrev pub PairsStand : ℕ → List ℕ → List (List ℕ × tree.Data) → Type 0
PairsStand room octets pairs =
    (front rest : List ℕ) × (octets ≡ front ++ rest) × ArePairsSpelled (Spells room) front (map (λ p. (tree.text p.0, p.1)) pairs)
