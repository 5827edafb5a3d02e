pub mod Options
pub mod Arguments
pub mod Kinds
pub mod body
