-- The laws that the proofs of this crate and of those above it share, by subject.

-- a list of holes that changes in the middle
pub mod Linked
-- what remains between two addresses
pub mod Remainder
-- a free span between its neighbours, and inserted there; the rest of a resized block's stretch
pub mod Between
pub mod Inserted
pub mod Rest
-- the neighbours that the search found
pub mod Neighbours
