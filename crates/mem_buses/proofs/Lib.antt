mod Places
pub mod CallLaws
mod PageLaws
mod PageBuild
