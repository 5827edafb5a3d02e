pub mod SendLemmas
pub mod Kept
