-- What crates above this one use of `sim_code` and don't list, so that the ways down from each crate stay few.
pub use Rattle.sim_code.proofs.Bounded
pub use Rattle.sim_code.proofs.Fetch
pub use Rattle.sim_code.proofs.Places
