pub mod Leb128
pub mod Entries
pub mod Heads
pub mod Sites
pub mod Chains
pub mod Faults
pub mod Laws
pub mod FirstFault
