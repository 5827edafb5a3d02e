pub mod Standing
pub mod body
