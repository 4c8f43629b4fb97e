pub mod Codes
pub mod Meaning
pub mod Once
pub mod Recipe
pub mod RecipeLaw
pub mod Marks
pub mod eh_codes
