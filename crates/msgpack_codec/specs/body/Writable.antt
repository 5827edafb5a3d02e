-- What `encode` writes as it stands, with each of its keys.
use Rattle.std.specs.Prelude.{◌^◌, length, nat_lt, Bool, true, false, ◌&&◌}
use Rattle.message_tree.specs.Data as tree
use Rattle.msgpack_codec.specs.Short.{item_count}
use Rattle.msgpack_codec.specs.Written.{keys_ascend}

-- numbers in their range, fewer than 2^32 members of each text, key, byte string, list and dictionary, ascending keys, and nothing uncarried
abbrev mutual
  pub is_writable : tree.Data → Bool
  is_writable tree.null = true
  is_writable (tree.flag b) = true
  is_writable (tree.whole z) = tree.fits_codecs z
  is_writable (tree.text s) = nat_lt (length s) (2 ^ 32)
  is_writable (tree.bytes b) = nat_lt (length b) (2 ^ 32)
  is_writable (tree.list ds) = nat_lt (item_count ds) (2 ^ 32) && items_writable ds
  is_writable (tree.dict es) = nat_lt (tree.entry_count es) (2 ^ 32) && (keys_ascend es && entries_writable es)
  is_writable tree.uncarried = false

  pub items_writable : tree.Items → Bool
  items_writable tree.no_items = true
  items_writable (tree.item d ds) = is_writable d && items_writable ds

  pub entries_writable : tree.Entries → Bool
  entries_writable tree.no_entries = true
  entries_writable (tree.entry k d es) = (nat_lt (length k) (2 ^ 32) && is_writable d) && entries_writable es
