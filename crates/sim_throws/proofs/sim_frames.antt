-- What crates above this one use of `sim_frames` and don't list, so that the ways down from each crate stay few.
pub use Rattle.sim_frames.proofs.Agreement
pub use Rattle.sim_frames.proofs.Clobbers
pub use Rattle.sim_frames.proofs.CodeBytes
pub use Rattle.sim_frames.proofs.FramePlaces
pub use Rattle.sim_frames.proofs.FramesSame
pub use Rattle.sim_frames.proofs.GoesHere
pub use Rattle.sim_frames.proofs.Landing
pub use Rattle.sim_frames.proofs.Located
pub use Rattle.sim_frames.proofs.Outwards
pub use Rattle.sim_frames.proofs.PadStands
pub use Rattle.sim_frames.proofs.Pads
pub use Rattle.sim_frames.proofs.ReachBySp
pub use Rattle.sim_frames.proofs.Sites
pub use Rattle.sim_frames.proofs.WithinReach
