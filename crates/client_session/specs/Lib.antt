pub mod Faults
pub mod Hearing
pub mod Handshake
pub mod Saying
pub mod Sessions
pub mod Laws
