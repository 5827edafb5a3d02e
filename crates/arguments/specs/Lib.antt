pub mod Arguments
pub mod Endings
pub mod Reading
pub mod body
