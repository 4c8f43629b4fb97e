-- What crates above this one use of `sim_throws` and don't list, so that the ways down from each crate stay few.
pub use Rattle.sim_throws.proofs.Bounds
pub use Rattle.sim_throws.proofs.CleanupEntered
pub use Rattle.sim_throws.proofs.CleanupKeeps
pub use Rattle.sim_throws.proofs.FramesAfter
pub use Rattle.sim_throws.proofs.Handler
pub use Rattle.sim_throws.proofs.Landable
pub use Rattle.sim_throws.proofs.ThrowGates
pub use Rattle.sim_throws.proofs.ThrowLands
pub use Rattle.sim_throws.proofs.ThrowLeaves
pub use Rattle.sim_throws.proofs.ThrowReached
