pub mod Events
pub mod PushEvents
pub mod Returning
pub mod sim_code
pub mod sim_relation
