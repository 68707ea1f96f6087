pub mod Meeting
pub mod Opposing
pub mod Tries
pub mod Trying
pub mod View
pub mod Ways
