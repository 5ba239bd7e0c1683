-- What the contracts of src/ cite: of the tests; of what passes them, with the arena; and of the readers.
pub mod Checks
pub mod Ready
pub mod Lends
pub mod Reads
