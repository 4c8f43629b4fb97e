mod Registers
mod AllAnswers
mod FileLoads
pub mod FilesAsked
pub mod Finding
mod Buildings
pub mod Asking
pub mod BytesCases
