pub mod ReadBack
pub mod HeardAsMeant
pub mod Wished
pub mod TextItems
pub mod NumberItems
mod InJson
