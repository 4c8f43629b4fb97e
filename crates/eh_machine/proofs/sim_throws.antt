-- What crates above this one use of `sim_throws` and don't list, so that the ways down from each crate stay few.
pub use Rattle.sim_runs.proofs.sim_throws.Landable
pub use Rattle.sim_runs.proofs.sim_throws.ThrowLands
pub use Rattle.sim_runs.proofs.sim_throws.ThrowReached
