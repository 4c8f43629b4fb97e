pub mod Words
pub mod Names
pub mod Address
pub mod Bytes
