-- The lemmas of this crate that other crates cite, passed on from one place. Declares nothing.
pub use Rattle.msgpack_codec.proofs.SpelledIsNotDeep.{spelled-not-deep}
pub use Rattle.msgpack_codec.proofs.SpelledIsRead.{one_spelling}
