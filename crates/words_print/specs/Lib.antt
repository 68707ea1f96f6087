pub mod WordTokens
pub mod Sayable
