-- What only the bodies and their proofs speak of: nothing here has to be believed.
pub mod SerializedParts
pub mod EventDetails
pub mod EventHead
pub mod Octets
