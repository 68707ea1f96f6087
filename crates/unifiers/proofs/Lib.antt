pub mod Agreement
pub mod Differences
pub mod Found
pub mod MatchesFound
