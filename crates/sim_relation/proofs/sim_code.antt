-- What crates above this one use of `sim_code` and don't list, so that the ways down from each crate stay few.
pub use Rattle.sim_code.proofs.CodesAre
pub use Rattle.sim_code.proofs.Entries
pub use Rattle.sim_code.proofs.Fetch
pub use Rattle.sim_code.proofs.Finds
pub use Rattle.sim_code.proofs.Folding
pub use Rattle.sim_code.proofs.Places
pub use Rattle.sim_code.proofs.Reading
pub use Rattle.sim_code.proofs.Results
