pub mod Faults
pub mod FromBroker
pub mod Laws
pub mod Says
pub mod ToBroker
pub mod Wishes
