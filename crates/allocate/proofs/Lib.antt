-- The laws that the proofs of this crate share, by subject.

-- the hole that an allocation found, and its pieces
mod Pieces
-- the search, and the walk that goes on behind the hole that it found
mod Searched
