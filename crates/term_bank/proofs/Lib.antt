pub mod Building
mod Entering
pub mod Same
