pub mod Choosing
pub mod Numbers
pub mod Shapes
