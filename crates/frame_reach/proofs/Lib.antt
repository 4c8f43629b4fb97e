pub mod Marking
pub mod Stands
pub mod Found
pub mod Runs
pub mod Existing
pub mod Others
pub mod Landing
pub mod Lowerings
