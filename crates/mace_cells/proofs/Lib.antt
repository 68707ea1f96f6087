pub mod Stacks
pub mod Steps
pub mod Drives
pub mod Making
pub mod Reading
pub mod Counting
