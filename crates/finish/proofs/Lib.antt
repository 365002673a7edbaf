mod Calling
mod Ending
mod Reaching
mod Telling
