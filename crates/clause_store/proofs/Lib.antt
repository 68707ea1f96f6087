pub mod Keeping
pub mod Kept
pub mod Lasting
pub mod Marking
