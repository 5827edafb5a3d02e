pub mod SendLemmas
pub mod Acting
pub mod CountedWords
pub mod Lemmas
pub mod Slots
pub mod StreamEnds
pub mod Talking
pub mod Writing
