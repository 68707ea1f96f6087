mod Accepting
mod Closing
mod Lines
mod Operators
mod Proofs
mod Signatures
mod Skolems
mod Words
