-- What crates above this one use of `thread_laws` and don't list, so that the ways down from each crate stay few.
pub use Rattle.thread_laws.specs.RecordedThreads
