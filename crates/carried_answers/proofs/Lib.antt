mod AboveSteps
pub mod Alike
pub mod Behind
mod BeginSteps
mod BringSteps
mod CompareSteps
mod FreshSteps
mod LeadSteps
pub mod Leads
pub mod Once
mod OnceSteps
mod WholeSteps
