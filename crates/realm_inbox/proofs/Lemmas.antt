-- The lemmas of this crate that other crates cite, passed on from one place. Declares nothing.
pub use Rattle.realm_inbox.proofs.PostLists.{adds_here, at_seat_append, at_seat_snoc, in_order_snoc, stops_snoc}
pub use Rattle.realm_inbox.proofs.StepEffects.{begins_posted}
pub use Rattle.realm_inbox.proofs.BesideSteps.{still_all}
