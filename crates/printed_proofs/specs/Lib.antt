pub mod Accepted
pub mod Files
pub mod LineBounds
pub mod Printed
pub mod ReadBehind
pub mod Refutations
pub mod Worked
pub mod WorkedLines
