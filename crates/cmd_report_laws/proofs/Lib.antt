mod OneReport
mod Written
mod Commands
