mod Widths
pub mod Straight
pub mod Extends
pub mod Prologues
pub mod Ordered
pub mod Exact
pub mod sim_code
