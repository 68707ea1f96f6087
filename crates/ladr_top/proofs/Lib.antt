pub mod Assumed
pub mod Checked
pub mod Ended
pub mod Lacking
