mod Samples
mod Sums
