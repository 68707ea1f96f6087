pub mod SearchInputs
