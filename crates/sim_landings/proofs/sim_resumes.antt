-- What crates above this one use of `sim_resumes` and don't list, so that the ways down from each crate stay few.
pub use Rattle.sim_runs.proofs.sim_resumes.FlyFrom
