pub mod KnownLevels
pub mod Levels
pub mod ProofLaws
pub mod SearchLines
pub mod Worked
