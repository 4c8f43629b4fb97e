pub mod Computations
pub mod Exprs
