mod Accepting
mod Memory
mod Sizes
mod Summing
