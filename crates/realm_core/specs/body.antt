-- What only the bodies and their proofs speak of: nothing here has to be believed.
pub mod Queues
pub mod Outboxes
pub mod Marks
pub mod CourseCode
pub mod Exchange
pub mod Runs
pub mod Rest
