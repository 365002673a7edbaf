pub mod Desk
