pub mod Flat
pub mod Pages
pub mod Paged
