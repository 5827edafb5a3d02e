-- What only the bodies and their proofs speak of: nothing here has to be believed.
pub mod Served
