-- The laws that the proofs of this crate and of those above it share, by subject.

-- the tests of a span, one by one
mod Gaps
-- the holes that keep clear of a span, and what its neighbours tell of them
mod Aside
mod Told
-- a span among the holes of a sound heap, and the search for it
mod Spans
pub mod Found
