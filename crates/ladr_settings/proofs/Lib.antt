mod Counted
mod OrderLemmas
mod Rows
pub mod Following
pub mod Ranges
