mod Generics
mod Entries
mod Writings
mod Listed
mod Tellings
mod Files
mod Endings
mod Summaries
