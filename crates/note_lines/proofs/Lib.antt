mod Stores
mod Walk
