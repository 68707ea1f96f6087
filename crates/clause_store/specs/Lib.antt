pub mod Ancestors
pub mod Laws
pub mod Lines
pub mod Marks
pub mod Parents
pub mod Stored
pub mod Worked
