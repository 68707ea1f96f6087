pub mod Boards
pub mod Comings
