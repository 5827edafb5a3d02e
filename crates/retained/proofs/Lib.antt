pub mod StoreLemmas
mod CountLemmas
mod Insertion
pub mod Lemmas
