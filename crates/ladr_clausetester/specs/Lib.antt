pub mod Filtering
pub mod Report
pub mod Testing
pub mod Verdicts
pub mod Worked
