-- The laws that the proofs of this crate share, by subject.

-- what a report gathers, and comes to; the rows that it fills
pub mod Gathered
pub mod Filled
