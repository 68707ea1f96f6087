pub mod Applied
pub mod Followed
pub mod Instance
pub mod Judged
pub mod Left
pub mod Lent
pub mod Measured
pub mod Owned
