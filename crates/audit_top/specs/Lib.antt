pub mod Words
pub mod Tables
pub mod Text
pub mod Writing
pub mod Report
pub mod Does
pub mod Answered
pub mod Laws
