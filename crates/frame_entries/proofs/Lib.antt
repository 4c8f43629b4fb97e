pub mod Distinct
pub mod Items
