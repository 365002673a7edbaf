mod Cast
mod HalfUp
mod Held
mod Library
mod Nudged
mod Ties
mod Whole
