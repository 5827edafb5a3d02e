pub mod Dictionaries
pub mod Reading
pub mod Values
