-- What the contracts of src/ cite, and what is said of them in words of the caller.
pub mod Face
pub mod Statements
