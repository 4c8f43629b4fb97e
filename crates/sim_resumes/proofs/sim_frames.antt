-- What crates above this one use of `sim_frames` and don't list, so that the ways down from each crate stay few.
pub use Rattle.sim_throws.proofs.sim_frames.FramesSame
pub use Rattle.sim_throws.proofs.sim_frames.Landing
