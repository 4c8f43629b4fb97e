-- What crates above this one use of `gnu_machine` and don't list, so that the ways down from each crate stay few.
pub use Rattle.gnu_machine.specs.GnuMachine
