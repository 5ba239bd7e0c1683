-- The laws of the definitions, by subject.

-- going by cases on a test
pub mod Cases
-- rounding: multiples, powers of two, the rounded size and refusal 6
pub mod Multiples
pub mod Powers
pub mod Layouts
-- memory: words, heads, the list of holes in memory, and few heads written for all
pub mod Words
pub mod Heads
pub mod Lists
pub mod Relink
-- what is left between two addresses; soundness as a walk reads it, and the order of the holes
pub mod Gaps
pub mod Walk
pub mod Floors
pub mod Rises
-- what adds up over the holes
pub mod Totals
-- the used hole
pub mod Used
-- the freed span: where it goes and what it joins, what stands against it
pub mod Freed
pub mod Clear
-- the order of the tests, and what each call comes to behind them; what it decides to write
pub mod Decide
pub mod Calls
pub mod Written
-- the demands: soundness, what the bytes hold and the tests in the paper's words
pub mod SoundWords
pub mod HoldWords
pub mod TestWords
-- demand 1: what comes of a call; refusals; what stays; the numbers of answers
pub mod Passes
pub mod Refused
pub mod Unaltered
pub mod Numbered
-- demand 2: where a request may lie, and the lowest address
pub mod Suits
pub mod Good
pub mod Lowest
-- the other calls
pub mod Cover
pub mod Vacancy
pub mod FreeWords
pub mod OpenWords
pub mod Reports
pub mod Readings
-- soundness is kept, and memory
pub mod AllocateKept
pub mod FreedWalk
pub mod FreeKept
pub mod Resized
pub mod ResizeWords
pub mod SoundKept
pub mod MemoryWords
-- all that is said of the calls
pub mod Statements
