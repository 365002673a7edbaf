pub mod EndRoom
pub mod EndedSamples
pub mod ResamplerEnd
pub mod StageEnd
