pub mod Alike
pub mod Worded
pub mod Standing
pub mod Pointed
pub mod Heard
pub mod Asked
pub mod Ended
