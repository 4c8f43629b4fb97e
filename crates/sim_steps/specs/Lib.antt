pub mod Steps
pub mod StepLaws
pub mod GateEvents
pub mod CallEvents
pub mod sim_relation
