pub mod Compared
pub mod Kbo
pub mod Laws
pub mod Listed
pub mod Lpo
pub mod Precedences
pub mod Worked
