-- What crates above this one use of `eh_bytecode` and don't list, so that the ways down from each crate stay few.
pub use Rattle.eh_bytecode.specs.declared
