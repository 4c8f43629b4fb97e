-- What crates above this one use of `frame_flow` and don't list, so that the ways down from each crate stay few.
pub use Rattle.frame_check.specs.frame_flow.Causes
pub use Rattle.frame_check.specs.frame_flow.Flows
pub use Rattle.frame_check.specs.frame_flow.Framed
