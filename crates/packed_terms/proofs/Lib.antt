pub mod Building
pub mod Heads
