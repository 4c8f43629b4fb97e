mod DataEffects
mod Data
pub mod DataTurns
pub mod Jumps
pub mod High
mod SimpleLaw
pub mod Cases
mod Counted
pub mod Gated
mod Behaving
pub mod Gates
pub mod Rooms
mod CallRegisters
pub mod Calls
pub mod sim_code
pub mod sim_relation
