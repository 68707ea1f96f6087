pub mod Beginning
pub mod Guided
pub mod Started
