pub mod Cookbook
