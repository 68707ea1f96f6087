mod Examples
mod Slots
mod Numberings
pub mod KboLemmas
pub mod Marks
pub mod NamesOnceLemmas
pub mod Places
pub mod Putting
pub mod SymbolLemmas
pub mod TruthLemmas
pub mod Variables
