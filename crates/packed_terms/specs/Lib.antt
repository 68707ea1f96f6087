pub mod Building
pub mod Codes
pub mod Heads
pub mod Worked
