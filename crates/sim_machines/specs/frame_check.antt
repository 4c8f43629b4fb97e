-- What crates above this one use of `frame_check` and don't list, so that the ways down from each crate stay few.
pub use Rattle.frame_check.specs.Accepts
pub use Rattle.frame_check.specs.Judged
pub use Rattle.frame_check.specs.Roles
pub use Rattle.frame_check.specs.Roots
