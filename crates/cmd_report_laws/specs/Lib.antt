pub mod OneReport
pub mod Numbers
pub mod Written
pub mod Commands
