pub mod AnsweredTexts
pub mod AnswersReread
pub mod Formulas
pub mod LineTexts
pub mod Names
pub mod Reread
pub mod Rereadable
pub mod Worked
