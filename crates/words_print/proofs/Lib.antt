pub mod Joints
pub mod LetterNames
pub mod SaidWords
