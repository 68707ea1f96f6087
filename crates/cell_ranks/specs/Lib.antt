pub mod Layouts
pub mod Ranks
pub mod Tournaments
