pub mod Fitness
pub mod Rows
pub mod Shapes
