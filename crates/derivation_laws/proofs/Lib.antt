pub mod Erased
pub mod Exchanges
mod Leaving
pub mod Lines
pub mod MovedLines
pub mod MovedRows
pub mod MovedRules
pub mod MovedTables
pub mod MovedTerms
pub mod NoElements
pub mod Places
pub mod RowAtoms
pub mod Rules
