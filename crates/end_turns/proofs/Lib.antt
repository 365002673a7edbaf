mod Fronting
mod ToEnd
