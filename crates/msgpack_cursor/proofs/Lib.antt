pub mod Beginnings
pub mod Pairs
pub mod Readings
pub mod Spellings
pub mod Walking
pub mod Wholes
