pub mod Standing
pub mod Entries
pub mod Seen
pub mod Unread
pub mod body
