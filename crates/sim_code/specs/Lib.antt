pub mod Recipes
pub mod RecipeLaws
pub mod Bounds
pub mod CodeLaws
pub mod frame_check
pub mod frame_flow
