pub mod ResamplerEnd
pub mod StageEnd
pub mod Theorems
pub mod laws
