-- What crates above this one use of `eh_threads` and don't list, so that the ways down from each crate stay few.
pub use Rattle.eh_threads.specs.Elements
pub use Rattle.eh_threads.specs.Schedules
