-- The laws that the proofs of this crate and of those above it share, by subject.

-- one step
pub mod OneStep
-- any walk: what it has passed, its turns, and what its loop gathers
pub mod Passed
pub mod Turn
pub mod Gathered
-- the walks to a fit, to a span and to the end
pub mod ToFit
pub mod ToSpan
pub mod ToEnd
-- the holes of a heap that keeps every rule
pub mod Stands
