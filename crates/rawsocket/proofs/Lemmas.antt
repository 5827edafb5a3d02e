-- The lemmas of this crate that other crates cite, passed on from one place. Declares nothing.
pub use Rattle.rawsocket.proofs.DeframerLemmas.{all_joined, nothing_read, one_split, pieces_join, resumed_reads}
pub use Rattle.rawsocket.proofs.DeviceLemmas.{grown_further, grown_second, grown_within, nothing_grown, whole_grown}
pub use Rattle.rawsocket.proofs.SomeSplit.{ReadsMore, resumed_more, some_reads}
pub use Rattle.rawsocket.proofs.StepsLemmas.{all_turns, at_told, no_steps, no_whole_steps, then_steps, told_fine, untold, whole, whole_fine}
