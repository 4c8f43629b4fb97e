pub mod Ahead
pub mod UndoRecord
