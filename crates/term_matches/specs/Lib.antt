pub mod Matched
pub mod Occurrences
pub mod Room
pub mod Trying
