-- The members of a list, and the pairs of a dictionary, as they are passed over one after the other.
use Rattle.std.specs.Prelude.{◌≡◌, ℕ, List, [], ◌∷◌, ◌++◌, length, Bool, true, ◌&&◌, Ok}
use Rattle.message_tree.specs.Data.{Data, null, flag, whole, text, bytes, list, dict, uncarried, Entries, no_entries, entry, is_carried, items_carried, entries_carried}
use Rattle.message_tree.specs.View.{items_of}
use Rattle.json_codec.specs.Encoder.{json_text}
use Rattle.msgpack_codec.specs.Values.{is_text}
use Rattle.msgpack_codec.specs.body.Decoder.{Found}
use Rattle.msgpack_codec.specs.body.Passing.{written_at}

-- a carried value is passed over, and its text is written
abbrev pub IsWrittenAt : ℕ → List ℕ → List ℕ → List ℕ → List ℕ → Type 0
IsWrittenAt room octets rest old new = (d : Data) (after : List ℕ) → written_at room octets ≡ Ok (d, after) → is_carried d ≡ true → (rest ≡ after) × (new ≡ old ++ json_text d)

abbrev pub NothingAt : ℕ → List ℕ → Type 0
NothingAt room octets = (d : Data) (after : List ℕ) → written_at room octets ≡ Ok (d, after) → is_carried d ≡ true → ⊥

-- values, each read behind the one before
abbrev pub AreAt : (List ℕ → Found Data) → List ℕ → List Data → List ℕ → Type 0
AreAt value octets [] after = octets ≡ after
AreAt value octets (d ∷ ds) after = (middle : List ℕ) × (value octets ≡ Ok (d, middle)) × AreAt value middle ds after

-- so many carried values
pub record ItemsAt (room count : ℕ) (octets after : List ℕ) (ds : List Data) : Type 0 where
  pub each : AreAt (written_at room) octets ds after
  pub counted : length ds ≡ count
  pub carried : items_carried (items_of ds) ≡ true

abbrev pub AreItemsWritten : ℕ → ℕ → List ℕ → List ℕ → List ℕ → List ℕ → Type 0
AreItemsWritten room count octets rest old new =
    (ds : List Data) (after : List ℕ) → ItemsAt room count octets after ds → (rest ≡ after) × (new ≡ old ++ json_text (list (items_of ds)))

abbrev pub NoItemsAt : ℕ → ℕ → List ℕ → Type 0
NoItemsAt room count octets = (ds : List Data) (after : List ℕ) → ¬ ItemsAt room count octets after ds

-- keys, each with its value behind it
abbrev pub ArePairsAt : (List ℕ → Found Data) → List ℕ → List (Data × Data) → List ℕ → Type 0
ArePairsAt value octets [] after = octets ≡ after
ArePairsAt value octets (p ∷ ps) after =
    (middle behind : List ℕ) × (value octets ≡ Ok (p.0, middle)) × (value middle ≡ Ok (p.1, behind)) × ArePairsAt value behind ps after

abbrev pub are_texts : List (Data × Data) → Bool
are_texts [] = true
are_texts (p ∷ ps) = is_text p.0 && are_texts ps

-- a pair before entries, where its key is a text
abbrev pub before_entries : Data → Data → Entries → Entries
before_entries null v es = es
before_entries (flag b) v es = es
before_entries (whole z) v es = es
before_entries (text s) v es = entry s v es
before_entries (bytes b) v es = es
before_entries (list ds) v es = es
before_entries (dict ms) v es = es
before_entries uncarried v es = es

abbrev pub entries_of : List (Data × Data) → Entries
entries_of [] = no_entries
entries_of (p ∷ ps) = before_entries p.0 p.1 (entries_of ps)

-- so many texts, each with a carried value behind it
pub record PairsAt (room count : ℕ) (octets after : List ℕ) (ps : List (Data × Data)) : Type 0 where
  pub each : ArePairsAt (written_at room) octets ps after
  pub counted : length ps ≡ count
  pub texts : are_texts ps ≡ true
  pub carried : entries_carried (entries_of ps) ≡ true

abbrev pub ArePairsWritten : ℕ → ℕ → List ℕ → List ℕ → List ℕ → List ℕ → Type 0
ArePairsWritten room count octets rest old new =
    (ps : List (Data × Data)) (after : List ℕ) → PairsAt room count octets after ps → (rest ≡ after) × (new ≡ old ++ json_text (dict (entries_of ps)))

abbrev pub NoPairsAt : ℕ → ℕ → List ℕ → Type 0
NoPairsAt room count octets = (ps : List (Data × Data)) (after : List ℕ) → ¬ PairsAt room count octets after ps

-- a text is passed over
abbrev pub IsKeyWritten : ℕ → List ℕ → List ℕ → List ℕ → List ℕ → Type 0
IsKeyWritten room octets rest old new = (key after : List ℕ) → written_at room octets ≡ Ok (text key, after) → (rest ≡ after) × (new ≡ old ++ (json_text (text key) ++ 58 ∷ []))

abbrev pub NoKeyAt : ℕ → List ℕ → Type 0
NoKeyAt room octets = (key after : List ℕ) → written_at room octets ≡ Ok (text key, after) → ⊥
