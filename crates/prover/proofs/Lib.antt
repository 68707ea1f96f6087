pub mod Answering
pub mod Draining
pub mod Finding
pub mod Giving
pub mod Going
pub mod Readings
