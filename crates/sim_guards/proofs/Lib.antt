pub mod Words
pub mod Stores
