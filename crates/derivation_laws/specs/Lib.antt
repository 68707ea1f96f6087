pub mod Countermodels
pub mod Elements
pub mod Moved
pub mod Signatures
pub mod Tables
