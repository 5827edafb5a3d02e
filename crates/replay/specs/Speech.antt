-- What the text of a line is: `gone`, a message of a client, or neither.
use Rattle.std.specs.Prelude.{◌≡◌, ◌≤◌, ℕ, true, false, List, codes, None, Some}
use Rattle.std.specs.Str.{bytes_eq}
use Rattle.message_tree.specs.Data.{Data, depth}
use Rattle.json_codec.specs.Decoder.{Reads}
use Rattle.session.specs.FromClient.{said_of}
use Rattle.wamp_messages.specs.declared.said.Said.{Said as Spoken}
use Rattle.replay.specs.declared.speech.Speech.{Speech}
use Rattle.replay.specs.declared.speech.Speech.TheVariants.{Gone, Said, Noise}

-- the text is this JSON message, of at most 100 levels
pub record IsMessage (text : List ℕ) (d : Data) : Type 0 where
  pub reads : Reads text d
  pub shallow : depth d ≤ 100

-- the text is a message of a client, which says this
pub record IsSaid (text : List ℕ) (said : Spoken) : Type 0 where
  pub tree : Data
  pub message : IsMessage text tree
  pub says : said_of tree ≡ Some said

abbrev pub IsGone : List ℕ → Type 0
IsGone text = bytes_eq text (codes "gone") ≡ true

-- the text is no message that a client may send
abbrev pub IsNoise : List ℕ → Type 0
IsNoise text = (d : Data) → IsMessage text d → said_of d ≡ None

-- what the text is
abbrev pub Hears : List ℕ → Speech → Type 0
Hears text Gone = IsGone text
Hears text (Said said) = (bytes_eq text (codes "gone") ≡ false) × IsSaid text said
Hears text Noise = (bytes_eq text (codes "gone") ≡ false) × IsNoise text
