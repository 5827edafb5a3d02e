pub mod Canonical
pub mod body
