pub mod Places
pub mod Rooms
pub mod Unused
pub mod Variables
