pub mod Forms
pub mod Gives
pub mod Reading
pub mod Spelling
pub mod Words
