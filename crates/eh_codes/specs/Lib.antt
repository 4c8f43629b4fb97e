pub mod Bytes
pub mod Table
pub mod Cut
pub mod Meaning
pub mod Words
pub mod Rows
pub mod Laws
