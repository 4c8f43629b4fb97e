-- What crates above this one use of `run_images` and don't list, so that the ways down from each crate stay few.
pub use Rattle.run_images.specs.Profiles
pub use Rattle.run_images.specs.Start
