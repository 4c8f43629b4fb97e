mod Covered
mod Pads
mod Edges
mod Calls
mod Scopes
mod Common
