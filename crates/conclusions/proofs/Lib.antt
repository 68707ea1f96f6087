pub mod Counts
pub mod Sets
