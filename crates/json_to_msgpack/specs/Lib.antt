pub mod Transliteration
pub mod body
