pub mod Hearing
pub mod Filters
pub mod Saying
pub mod Along
pub mod Accepted
pub mod Made
