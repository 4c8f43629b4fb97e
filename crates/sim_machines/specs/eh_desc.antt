-- What crates above this one use of `eh_desc` and don't list, so that the ways down from each crate stay few.
pub use Rattle.eh_phase.specs.eh_desc.declared
