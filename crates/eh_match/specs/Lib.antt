pub mod Paths
pub mod Address
pub mod Subobjects
pub mod Rules
pub mod Walk
pub mod Laws
