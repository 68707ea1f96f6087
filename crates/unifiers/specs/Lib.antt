pub mod Laws
pub mod Matching
pub mod Unifier
pub mod Worked
