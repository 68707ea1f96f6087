pub mod Standing
pub mod Tellings
