pub mod Again
pub mod Entries
pub mod Interpreted
pub mod Parsing
pub mod Reading
pub mod Restating
pub mod Tabling
pub mod Writing
