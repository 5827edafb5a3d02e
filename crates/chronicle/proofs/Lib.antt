pub mod RuleSteps
pub mod SendLemmas
