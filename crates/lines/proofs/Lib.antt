-- The laws that the proofs of this crate share, by subject.

-- digits in words, and a byte with its numbers
pub mod Worth
pub mod Spelled
-- frames: digits as code reads them, forms by their call's byte, and the numbers of a line
pub mod Digits
pub mod Frames
pub mod Taken
-- frames read and answers printed are what the words say
pub mod FrameWords
pub mod LineWords
-- parts of a buffer, and lines from rows
pub mod Placed
pub mod FromRows
-- what is printed of a call, and of the list
pub mod Spoken
pub mod Listed
-- what a line comes to, in words too
pub mod Answered
pub mod HasRoom
pub mod ReplyWords
-- the format, at its statements
pub mod Format
