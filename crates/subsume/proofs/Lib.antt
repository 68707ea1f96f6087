pub mod Literals
pub mod Marks
pub mod Pretests
pub mod Standing
pub mod Ways
