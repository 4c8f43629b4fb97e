pub mod Room
pub mod Items
pub mod Marks
pub mod Rising
