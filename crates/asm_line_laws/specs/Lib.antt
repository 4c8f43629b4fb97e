pub mod Written
pub mod Narrow
pub mod Lines
pub mod Read
pub mod Once
pub mod Stops
