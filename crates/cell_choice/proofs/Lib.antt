pub mod Exchanging
pub mod Shaping
pub mod Picking
