pub mod Composing
pub mod Elements
pub mod Interleaving
pub mod Numbering
pub mod PathLemmas
pub mod Replacing
pub mod Truth
mod Variables
pub mod Variants
