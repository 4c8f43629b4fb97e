-- What crates above this one use of `eh_codes` and don't list, so that the ways down from each crate stay few.
pub use Rattle.eh_codes.specs.Cut
pub use Rattle.eh_codes.specs.declared
