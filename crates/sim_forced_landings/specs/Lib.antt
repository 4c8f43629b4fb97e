pub mod Forcings
