-- What crates above this one use of `sim_steps` and don't list, so that the ways down from each crate stay few.
pub use Rattle.sim_steps.proofs.Calls
pub use Rattle.sim_steps.proofs.Cases
pub use Rattle.sim_steps.proofs.DataTurns
pub use Rattle.sim_steps.proofs.Gated
pub use Rattle.sim_steps.proofs.Gates
pub use Rattle.sim_steps.proofs.High
pub use Rattle.sim_steps.proofs.Jumps
