-- What crates above this one use of `sim_code` and don't list, so that the ways down from each crate stay few.
pub use Rattle.sim_prologue.specs.sim_code.Bounds
