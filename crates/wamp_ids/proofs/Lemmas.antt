-- The lemmas of this crate that other crates cite, passed on from one place. Declares nothing.
pub use Rattle.wamp_ids.proofs.Equality.{bytes_eq-refl, bytes_eq-true, same_pattern-refl, same_pattern-true}
