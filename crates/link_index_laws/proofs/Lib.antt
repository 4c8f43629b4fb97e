pub mod Segments
pub mod Rising
pub mod Reading
pub mod Found
pub mod Tables
