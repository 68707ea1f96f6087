pub mod Comparing
pub mod Items
pub mod LiteralTests
pub mod PathSteps
pub mod Ranking
pub mod Sides
pub mod Variables
pub mod Weights
