pub mod Products
pub mod Rooms
pub mod Serving
pub mod Stages
