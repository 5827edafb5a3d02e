-- What only the bodies and their proofs speak of: nothing here has to be believed.
pub mod Fits
pub mod Heads
pub mod Keys
pub mod Lexing
pub mod Values
