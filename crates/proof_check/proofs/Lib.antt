mod Alike
mod AnsweringSteps
mod CarryingSteps
mod CheckSteps
mod EarlierSteps
mod InferSteps
mod InstanceSteps
mod LineSteps
pub mod PlainSteps
mod SizeSteps
