pub mod Placing
pub mod Ranking
pub mod Winning
