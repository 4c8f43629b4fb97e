pub mod Reading
pub mod Scopes
pub mod Marked
pub mod Begins
pub mod Named
pub mod Refused
pub mod Told
pub mod Moving
