pub mod Codes
pub mod Scopes
pub mod Filters
