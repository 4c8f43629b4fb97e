mod Reading
mod Tagging
mod ScheduleLaws
mod TagLaws
