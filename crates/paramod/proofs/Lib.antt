pub mod Gathered
pub mod Missing
pub mod Paths
pub mod Taken
pub mod Unpaired
pub mod Walking
