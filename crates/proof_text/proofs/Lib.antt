pub mod Begun
pub mod Gathered
pub mod LineLemmas
pub mod LinesRead
pub mod TokenPlaces
