-- The laws of the program's reading and writing.

-- what is said of more bytes
pub mod Said
