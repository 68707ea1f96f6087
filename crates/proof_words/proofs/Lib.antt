pub mod Letters
pub mod Spellings
