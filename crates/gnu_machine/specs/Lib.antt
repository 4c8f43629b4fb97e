pub mod Handed
pub mod GnuMachine
pub mod Done
pub mod Laws
pub mod PadLaws
