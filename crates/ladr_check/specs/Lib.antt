pub mod Checking
pub mod CheckReport
pub mod Offered
pub mod Outcomes
pub mod Shown
