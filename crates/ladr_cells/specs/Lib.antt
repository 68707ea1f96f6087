pub mod Fitting
pub mod Showing
pub mod Uses
pub mod Worlds
