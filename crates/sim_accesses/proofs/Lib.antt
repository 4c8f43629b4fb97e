mod Callers
mod Accesses
mod Stacks
mod Trapped
pub mod Events
mod SavedWords
mod Pushing
mod LaterPush
mod PushedSaves
mod FirstPush
pub mod PushTurns
mod Returns
mod Left
pub mod BxTurns
mod Back
mod PoppedWords
mod Pops
pub mod PopTurns
pub mod sim_code
pub mod sim_relation
