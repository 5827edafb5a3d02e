-- The lemmas of this crate that other crates cite, passed on from one place. Declares nothing.
pub use Rattle.json_codec.proofs.OneTreeAText.{deep-no-other, one-tree, readable}
pub use Rattle.json_codec.proofs.Parts.{dict_text, list_text}
