pub mod Listing
pub mod Outside
