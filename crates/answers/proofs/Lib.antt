pub mod Among
pub mod Measures
pub mod Packing
pub mod Prefix
pub mod Sameness
