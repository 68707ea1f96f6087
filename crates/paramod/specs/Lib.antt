pub mod Partners
pub mod Replacing
pub mod Sites
