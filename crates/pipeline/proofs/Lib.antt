mod OpeningLaws
mod Opens
mod ResetLaws
pub mod laws
pub mod RecipeKept
pub mod Theorems
