mod Next
mod SendLemmas
mod PostedOutside
