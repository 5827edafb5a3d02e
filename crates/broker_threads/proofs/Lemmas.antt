-- The lemmas of this crate that other crates cite, passed on from one place. Declares nothing.
pub use Rattle.broker_threads.proofs.Slots.{behind, none_left, put_back}
pub use Rattle.broker_threads.proofs.Talking.{went_on}
