pub mod Halves
pub mod Meaning
pub mod NameSymbols
pub mod NamesPass
pub mod Pairs
pub mod Texts
