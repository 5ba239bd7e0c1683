-- The laws of a talk.

-- what comes of hearing bytes
pub mod Hearing
-- and what it comes to, in words
pub mod Transcript
