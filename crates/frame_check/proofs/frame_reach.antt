-- What crates above this one use of `frame_reach` and don't list, so that the ways down from each crate stay few.
pub use Rattle.frame_reach.proofs.Existing
pub use Rattle.frame_reach.proofs.Found
pub use Rattle.frame_reach.proofs.Runs
pub use Rattle.frame_reach.proofs.Stands
