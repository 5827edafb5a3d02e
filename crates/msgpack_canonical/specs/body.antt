-- What only the bodies and their proofs speak of: nothing here has to be believed.
pub mod Fitting
pub mod Kinds
pub mod Entries
pub mod Sorting
pub mod CanonicalEntries
