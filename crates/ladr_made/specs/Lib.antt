pub mod Chain
pub mod Making
pub mod Modelling
pub mod Proving
pub mod Summary
