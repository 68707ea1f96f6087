pub mod Following
pub mod Settings
