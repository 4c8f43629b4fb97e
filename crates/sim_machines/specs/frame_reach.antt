-- What crates above this one use of `frame_reach` and don't list, so that the ways down from each crate stay few.
pub use Rattle.frame_check.specs.frame_reach.Marks
