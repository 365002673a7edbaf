mod Products
mod Thresholds
