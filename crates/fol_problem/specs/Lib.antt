pub mod Asks
pub mod Stated
pub mod StatedCodes
