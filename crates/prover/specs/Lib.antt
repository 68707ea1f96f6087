pub mod Answers
pub mod Provers
pub mod Worked
