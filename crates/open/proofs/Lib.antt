-- The laws that the proofs of this crate share.

-- what an opening comes to, by the tests that it makes
pub mod Begun
