pub mod Cells
pub mod Count
pub mod GroundCodes
pub mod GroundLaws
pub mod Instances
pub mod Spans
pub mod Worked
