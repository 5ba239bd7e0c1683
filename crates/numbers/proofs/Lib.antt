-- The laws that the proofs of this crate and of those above it share, by subject.

-- the rules on the numbers, as tests decide them
pub mod Rules
-- refusal 1, as tests decide it
pub mod Refused
-- what check says, and what it earns a call
pub mod Verdicts
-- what the readers say
pub mod Reading
