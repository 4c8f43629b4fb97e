pub mod Landings
pub mod ByteLandings
pub mod Due
pub mod LandingLaws
pub mod sim_resumes
pub mod sim_runs
