pub mod Different
pub mod Formula
pub mod Names
pub mod NamesPass
pub mod Symbols
pub mod Worked
