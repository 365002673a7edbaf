mod Cleared
mod Stages
mod Words
