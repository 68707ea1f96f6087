pub mod Complete
pub mod Models
pub mod Worked
