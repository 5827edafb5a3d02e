pub mod GhostCount
pub mod GhostList
