-- The lemmas of this crate that other crates cite, passed on from one place. Declares nothing.
pub use Rattle.message_tree.proofs.Comparisons.{whichever}
pub use Rattle.message_tree.proofs.Depths.{depth_at}
pub use Rattle.message_tree.proofs.EntryParts.{below-next, joined-none, next-put}
pub use Rattle.message_tree.proofs.Views.{ascending, items_from}
