pub mod Framed
pub mod Causes
pub mod Flows
pub mod Table
pub mod Work
pub mod Conditions
pub mod Laws
