pub mod Words
pub mod Tables
pub mod Descriptors
pub mod Indexes
pub mod CodeBytes
