pub mod Posts
pub mod Desks
pub mod Sides
