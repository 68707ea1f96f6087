pub mod Bound
pub mod Lefts
pub mod Nodes
pub mod Rewriting
pub mod Shared
pub mod Used
pub mod Ways
pub mod Worked
