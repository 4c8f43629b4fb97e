-- What crates above this one use of `eh_phase` and don't list, so that the ways down from each crate stay few.
pub use Rattle.eh_phase.specs.Cleanups
pub use Rattle.eh_phase.specs.declared
