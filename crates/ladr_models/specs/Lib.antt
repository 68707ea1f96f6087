pub mod Printed
pub mod ReadsBack
pub mod Worked
