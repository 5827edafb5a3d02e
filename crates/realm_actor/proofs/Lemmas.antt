-- The lemmas of this crate that other crates cite, passed on from one place. Declares nothing.
pub use Rattle.realm_actor.proofs.RunLemmas.{same_grown}
