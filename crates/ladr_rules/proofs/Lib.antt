pub mod Arities
pub mod AskedParts
mod Keeping
pub mod Names
pub mod Parts
pub mod Variables
