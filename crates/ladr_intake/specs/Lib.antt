pub mod Command
pub mod Input
pub mod Language
pub mod Posed
pub mod Refusals
