-- What crates above this one use of `sim_steps` and don't list, so that the ways down from each crate stay few.
pub use Rattle.sim_steps.proofs.Gated
pub use Rattle.sim_steps.proofs.Jumps
