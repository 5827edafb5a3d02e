pub mod Pairs
pub mod Steps
pub mod Tokens
mod ShortTexts
