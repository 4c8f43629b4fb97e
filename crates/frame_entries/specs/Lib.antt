pub mod Unwinding
pub mod Scopes
