pub mod Fronts
pub mod Holding
pub mod Order
pub mod Ranks
pub mod Variables
