pub mod Bank
pub mod Cells
pub mod Nodes
pub mod Worked
