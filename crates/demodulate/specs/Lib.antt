pub mod Passes
pub mod Resumed
pub mod Steps
