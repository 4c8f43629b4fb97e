pub mod TwoFirst
pub mod Written
pub mod Bytes
pub mod Reading
pub mod Tables
