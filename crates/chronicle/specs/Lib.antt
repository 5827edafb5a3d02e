pub mod Recorded
-- What only the body and its proofs speak of.
pub mod body
