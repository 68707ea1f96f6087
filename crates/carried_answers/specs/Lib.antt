pub mod Above
pub mod Among
pub mod Begun
pub mod Brought
pub mod Carried
pub mod CarriedCodes
pub mod Leading
pub mod Whole
