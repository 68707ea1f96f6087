pub mod Acting
pub mod Guides
pub mod Lists
pub mod Noted
pub mod States
pub mod Turns
