pub mod Listing
pub mod Code
pub mod Counts
pub mod Audits
pub mod Laws
