pub mod PassingLemmas
pub mod HearingLemmas
pub mod ReplyLemmas
pub mod OneAfterAnother
pub mod SessionLemmas
