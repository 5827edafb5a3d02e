pub mod Places
pub mod SendLemmas
