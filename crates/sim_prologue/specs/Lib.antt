pub mod PrologueLaws
pub mod sim_code
