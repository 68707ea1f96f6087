pub mod Sums
pub mod Placing
pub mod Numbering
pub mod Grounding
