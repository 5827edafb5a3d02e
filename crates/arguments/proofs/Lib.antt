pub mod SendLemmas
pub mod Written
