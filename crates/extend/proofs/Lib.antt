-- The laws that the proofs of this crate share, by subject.

-- an extension
mod Extending
