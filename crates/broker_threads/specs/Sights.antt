-- What contracts see of the two halves of a stream.
use Rattle.std.specs.Prelude.{◌≡◌}
use Rattle.rawsocket.specs.Devices.{Reading, Writing}

-- what is seen of the half that is read from, and of the half that is written to
pub record Sight (I O : Type 0) : Type 0 where
  pub reading : I → Reading
  pub writing : O → Writing

abbrev pub sight : {I O : Type 0} → (I → Reading) → (O → Writing) → Sight I O
sight reading writing = record { reading = reading; writing = writing }

-- two halves of the streams of these names are two more, of the same
pub record KeepsNames {I O : Type 0} (see : Sight I O) (before after : I × O) : Type 0 where
  pub read : (see.reading after.0).name ≡ (see.reading before.0).name
  pub written : (see.writing after.1).name ≡ (see.writing before.1).name
