-- What crates above this one use of `thumb_core` and don't list, so that the ways down from each crate stay few.
pub use Rattle.thumb_core.specs.Words
