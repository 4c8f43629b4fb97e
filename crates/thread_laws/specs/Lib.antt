pub mod RecordedThreads
pub mod Standing
pub mod Leaving
pub mod Laws
pub mod sim_relation
