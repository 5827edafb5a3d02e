pub mod Leaving
pub mod Posting
pub mod Whole
pub mod WholeSteps
