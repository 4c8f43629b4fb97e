pub mod Listed
pub mod Divided
pub mod Clear
pub mod Told
