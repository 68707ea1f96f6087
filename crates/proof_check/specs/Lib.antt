pub mod Found
pub mod Reached
pub mod Sized
