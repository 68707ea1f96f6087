pub mod AnswerTrees
pub mod AnswerView
pub mod Packed
pub mod Worked
