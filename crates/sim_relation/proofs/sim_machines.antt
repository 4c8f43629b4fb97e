-- What crates above this one use of `sim_machines` and don't list, so that the ways down from each crate stay few.
pub use Rattle.sim_machines.proofs.CallEvents
pub use Rattle.sim_machines.proofs.FirstEvent
