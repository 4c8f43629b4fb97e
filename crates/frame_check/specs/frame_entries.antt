-- What crates above this one use of `frame_entries` and don't list, so that the ways down from each crate stay few.
pub use Rattle.frame_entries.specs.Scopes
pub use Rattle.frame_entries.specs.Unwinding
pub use Rattle.frame_entries.specs.declared
