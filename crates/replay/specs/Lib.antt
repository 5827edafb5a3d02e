pub mod Lines
pub mod Speech
pub mod Transcript
pub mod LineReplays
pub mod Progress
pub mod Outcome
pub mod Codes
pub mod Laws
