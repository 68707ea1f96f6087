pub mod Memory
pub mod Streams
pub mod Times
pub mod Watch
