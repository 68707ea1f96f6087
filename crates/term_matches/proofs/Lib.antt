pub mod Arguments
pub mod Counting
pub mod Fronts
pub mod MatchSteps
