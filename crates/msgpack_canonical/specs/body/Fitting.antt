-- What `encode` accepts, and what the bodies make of a value that was read or not.
use Rattle.std.specs.Prelude.{◌≡◌, ◌+◌, ◌^◌, ◌&&◌, ◌∷◌, ◌++◌, ℕ, List, length, Bool, true, false, nat_lt, Ok, if◌then◌else◌}
use Rattle.std.specs.Int.{w16, w32, to_be_bytes}
use Rattle.message_tree.specs.Data as tree
use Rattle.msgpack_codec.specs.Short.{short, item_count}
use Rattle.msgpack_codec.specs.body.Decoder.{Found}

-- carried, with fewer than 2^32 members of each text, key, byte string, list and dictionary
abbrev mutual
  pub fits : tree.Data → Bool
  fits tree.null = true
  fits (tree.flag b) = true
  fits (tree.whole z) = tree.fits_codecs z
  fits (tree.text s) = nat_lt (length s) (2 ^ 32)
  fits (tree.bytes b) = nat_lt (length b) (2 ^ 32)
  fits (tree.list ds) = nat_lt (item_count ds) (2 ^ 32) && items_fit ds
  fits (tree.dict es) = nat_lt (tree.entry_count es) (2 ^ 32) && entries_fit es
  fits tree.uncarried = false

  pub items_fit : tree.Items → Bool
  items_fit tree.no_items = true
  items_fit (tree.item d ds) = fits d && items_fit ds

  pub entries_fit : tree.Entries → Bool
  entries_fit tree.no_entries = true
  entries_fit (tree.entry k d es) = nat_lt (length k) (2 ^ 32) && (fits d && entries_fit es)

-- a value was read, and it was written where it fits
abbrev pub IsPut : Found tree.Data → List ℕ → Bool → List ℕ → List ℕ → Type 0
IsPut found rest is_written old new = (d : tree.Data) × (found ≡ Ok (d, rest)) × (is_written ≡ fits d) × (is_written ≡ true → new ≡ old ++ short d)

-- no value was read
abbrev pub IsUnread : Found tree.Data → Type 0
IsUnread found = (d : tree.Data) (rest : List ℕ) → found ≡ Ok (d, rest) → ⊥

-- a count behind a mark: in two octets, or in four behind the next mark
abbrev pub counted : ℕ → ℕ → List ℕ
counted mark n = if nat_lt n 65536 then mark ∷ to_be_bytes w16 n else (mark + 1) ∷ to_be_bytes w32 n
