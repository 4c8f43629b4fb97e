pub mod Accepted
pub mod Steps
pub mod Loading
pub mod Prologue
pub mod Caller
pub mod Entries
