-- What crates above this one use of `sim_relation` and don't list, so that the ways down from each crate stay few.
pub use Rattle.sim_runs.specs.sim_relation.Stands
