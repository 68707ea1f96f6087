pub mod CoversLemmas
mod Powers
mod ValuesFor
