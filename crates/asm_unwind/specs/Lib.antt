pub mod Refusals
pub mod FaultNames
pub mod Codes
pub mod Entries
pub mod Kept
pub mod Meaning
pub mod EntryLaw
