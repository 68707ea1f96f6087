pub mod Classes
pub mod Faults
pub mod Names
pub mod Spelling
pub mod Worked
pub mod Written
