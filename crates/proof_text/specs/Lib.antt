pub mod Begun
pub mod Blocks
pub mod Found
pub mod Frame
pub mod Going
pub mod Proofs
pub mod Refused
