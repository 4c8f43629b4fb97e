pub mod LateMeans
pub mod Forms
pub mod Long
pub mod LateForms
pub mod Inverse
