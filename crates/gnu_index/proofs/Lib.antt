pub mod Filtering
pub mod Rowing
pub mod Halving
pub mod Refusing
