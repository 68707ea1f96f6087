pub mod Covers
pub mod Good
pub mod NamedText
pub mod Worked
