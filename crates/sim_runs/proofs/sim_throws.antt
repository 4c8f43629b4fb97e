-- What crates above this one use of `sim_throws` and don't list, so that the ways down from each crate stay few.
pub use Rattle.sim_resumes.proofs.sim_throws.Bounds
pub use Rattle.sim_resumes.proofs.sim_throws.CleanupEntered
pub use Rattle.sim_resumes.proofs.sim_throws.CleanupKeeps
pub use Rattle.sim_resumes.proofs.sim_throws.FramesAfter
pub use Rattle.sim_resumes.proofs.sim_throws.Handler
pub use Rattle.sim_resumes.proofs.sim_throws.Landable
pub use Rattle.sim_resumes.proofs.sim_throws.ThrowLands
pub use Rattle.sim_resumes.proofs.sim_throws.ThrowReached
