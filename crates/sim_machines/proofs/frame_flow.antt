-- What crates above this one use of `frame_flow` and don't list, so that the ways down from each crate stay few.
pub use Rattle.frame_check.proofs.frame_flow.Causing
pub use Rattle.frame_check.proofs.frame_flow.Conditions
pub use Rattle.frame_check.proofs.frame_flow.Visiting
