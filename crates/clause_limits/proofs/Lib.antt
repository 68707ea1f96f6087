pub mod Beside
pub mod Changing
pub mod Few
pub mod Maxima
pub mod Measures
pub mod Measuring
pub mod Noting
pub mod Numbered
