mod Asks
mod Behind
mod Bodies
pub mod Claims
pub mod Clauses
mod Closures
mod Crossing
mod Fronting
mod FormSets
mod FreeNames
mod Fresh
pub mod FormTruth
pub mod WholeLaws
mod Works
mod Marks
mod NameLemmas
mod Rows
pub mod Scopes
pub mod Sets
mod SkolemLemmas
mod Substituting
