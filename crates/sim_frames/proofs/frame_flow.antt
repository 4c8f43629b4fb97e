-- What crates above this one use of `frame_flow` and don't list, so that the ways down from each crate stay few.
pub use Rattle.frame_flow.proofs.Reaching
