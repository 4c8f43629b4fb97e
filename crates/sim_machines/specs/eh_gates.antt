-- What crates above this one use of `eh_gates` and don't list, so that the ways down from each crate stay few.
pub use Rattle.eh_gates.specs.Resuming
pub use Rattle.eh_gates.specs.State
