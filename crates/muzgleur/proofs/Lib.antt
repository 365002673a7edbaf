mod Answered
mod Cut
mod Opened
