-- What a reader has to believe: the model of a realm, and its laws.
pub mod Worlds
pub mod PostedOrder
pub mod Delivery
-- What the body and its proofs speak of; clauses cite of it only when a world is at rest, and what one entry gives it.
pub mod body
