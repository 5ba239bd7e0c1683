-- The proofs of what is said of runs and of any behaviour, by subject. What is said call by call is proved in crate rules.

-- demand 3: runs, and two side by side
pub mod RunLaws
pub mod TwoRuns
-- demand 3: held blocks
pub mod Tiling
pub mod HeldKept
pub mod HeldRuns
-- the premises can be met
pub mod Played
pub mod Premises
-- what the demands fix is one thing: a heap, its holes, its memory, a row
pub mod OneHeap
pub mod OneList
pub mod OneMemory
pub mod OneRow
-- two behaviours that meet the statements: the tests that all calls share, and what comes of each call
pub mod Verdict
pub mod Settles
pub mod Determined
-- the frauds
pub mod Caught
pub mod Shown
pub mod Culprits
pub mod Frauds
-- crates weighed by hand
pub mod Weighed
-- what the port leaves out
pub mod LeftOut
-- all of the demands
pub mod Demands
