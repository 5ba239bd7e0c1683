-- Document 01 as definitions, in its order. docs/PAPER.md leads from each of its sentences to its definition.

-- the numbers that the paper fixes; lists of tests; multiples
pub mod Fixed
pub mod Tests
pub mod Round
-- the heap and its memory: addresses and places; words; heads and the list of holes; sound
pub mod Kinds
pub mod Words
pub mod Holes
pub mod Sound
-- what each call does: the rounded size and the hole used; the freed span; the resized block; the calls; the
-- readers
pub mod Allocate
pub mod Free
pub mod Resize
pub mod Changes
pub mod Calls
pub mod Readers
-- when the box says no; how tightly an answer is tied: numbers, heap, arena, rows
pub mod Refusals
pub mod Answers
pub mod Outcome
-- for the contracts below the calls
pub mod Inner
-- the demands: the paper's words as statements
pub mod InWords
pub mod Runs
-- what a box does, as one value, and what is said of it call by call
pub mod Behaviour
pub mod Statements
