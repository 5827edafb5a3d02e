-- The lemmas of this crate that other crates cite, passed on from one place. Declares nothing.
pub use Rattle.retained.proofs.StoreLemmas.{has_room-retained, last_alone, retained-more}
