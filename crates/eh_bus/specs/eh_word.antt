-- What crates above this one use of `eh_word` and don't list, so that the ways down from each crate stay few.
pub use Rattle.eh_word.specs.Bytes
pub use Rattle.eh_word.specs.Words
