pub mod Commands
pub mod Reasons
pub mod Grants
pub mod Sessions
pub mod Served
