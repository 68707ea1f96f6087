pub mod Alike
mod BoundSteps
mod FollowSteps
mod MakeSteps
mod NodeSteps
mod PutSteps
mod UsedSteps
mod WaySteps
