pub mod Posts
pub mod Reader
pub mod Writer
pub mod Watch
pub mod body
