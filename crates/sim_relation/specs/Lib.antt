pub mod Holds
pub mod Chain
pub mod Cleanups
pub mod Stands
pub mod sim_code
pub mod sim_machines
