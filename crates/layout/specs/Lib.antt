-- What a layout is known for, and which one a request has.
pub mod Asked
pub mod Lays
