pub mod Denying
pub mod Fits
pub mod Passing
pub mod Redexes
pub mod Resuming
pub mod Ruleless
pub mod Smaller
pub mod Worded
