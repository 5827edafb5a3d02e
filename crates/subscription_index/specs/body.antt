-- What only the bodies and their proofs speak of: nothing here has to be believed.
pub mod Found
pub mod Tables
pub mod Shapes
pub mod Names
pub mod Holders
pub mod Conns
pub mod Receivers
pub mod Pieces
pub mod Words
