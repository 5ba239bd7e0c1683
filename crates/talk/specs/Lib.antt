-- What the contracts of src/ cite: what a buffer holds,
pub mod Held
-- what comes of hearing bytes,
pub mod Hearing
-- and what it comes to, in words
pub mod Transcript
