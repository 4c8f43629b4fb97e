pub mod State
pub mod CallGates
pub mod Landing
pub mod Throwing
pub mod Resuming
pub mod Gates
pub mod Laws
