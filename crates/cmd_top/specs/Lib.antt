pub mod Answered
pub mod cmd_perform
