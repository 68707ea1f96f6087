pub mod Assumed
pub mod Causes
pub mod Ended
pub mod Limits
pub mod Runs
pub mod Words
