pub mod Conclusions
pub mod Contents
pub mod Elements
pub mod Induction
pub mod LaterSound
pub mod Lawful
pub mod Naturality
pub mod PlaceLemmas
pub mod PlaceSteps
pub mod Rows
pub mod RuleSound
pub mod SideSteps
pub mod Values
mod WorkedLemmas
pub mod Spread
