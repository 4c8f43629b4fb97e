pub mod GateEnds
pub mod EventEnds
pub mod Stack
pub mod Tests
pub mod GoingOn
pub mod PlainGates
pub mod Saves
pub mod Budgets
pub mod Heads
mod Raises
