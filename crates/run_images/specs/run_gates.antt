-- What crates above this one use of `run_gates` and don't list, so that the ways down from each crate stay few.
pub use Rattle.run_gates.specs.declared
