-- What crates above this one use of `cmd_perform` and don't list, so that the ways down from each crate stay few.
pub use Rattle.cmd_perform.specs.FlatReport
pub use Rattle.cmd_perform.specs.Report
pub use Rattle.cmd_perform.specs.Unfit
pub use Rattle.cmd_perform.specs.Yields
