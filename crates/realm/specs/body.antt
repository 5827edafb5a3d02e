-- What only the bodies and their proofs speak of: nothing here has to be believed.
pub mod HistoryCode
pub mod LiveSessions
pub mod Refinement
pub mod Outputs
pub mod Transitions
pub mod Apply
