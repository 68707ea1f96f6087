mod AnswerSteps
mod RowSteps
mod SameSteps
mod SaySteps
