-- The lemmas of this crate that other crates cite, passed on from one place. Declares nothing.
pub use Rattle.subscription_index.proofs.Holders.{ascends-rows_of, has_named-rows_of, length-rows_of, named_decide}
pub use Rattle.subscription_index.proofs.IndexLemmas.{joined, left_over, opened_anew}
pub use Rattle.subscription_index.proofs.Keys.{ascending-filter}
pub use Rattle.subscription_index.proofs.Members.{has_row-holds_no_number, has_row-insert, has_row-left, has_row-no_number, has_row-not_held, has_row-number_held, has_row-number_of, pattern_of-has_row, same_row_self}
