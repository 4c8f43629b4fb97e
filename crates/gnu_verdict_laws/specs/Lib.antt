pub mod Verdicts
pub mod Read
pub mod Laws
pub mod Tables
