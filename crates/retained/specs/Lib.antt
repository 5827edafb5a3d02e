pub mod Store
pub mod body
