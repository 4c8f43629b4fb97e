mod Numbers
mod Words
mod Lines
mod Builds
mod Answers
mod Calls
