-- The demands gathered, and what is said beside the statements of crate rules.

-- crates weighed by hand
pub mod Weighed
-- what the port leaves out of the original, and that it is harmless
pub mod LeftOut
-- the frauds that the statements shut out
pub mod Frauds
-- that their premises can be met
pub mod Premises
pub mod Demands
