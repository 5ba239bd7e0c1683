-- The laws of this crate, by subject.

-- what is said of the heap that the words say
pub mod Loaded
-- in words of the caller: which word is which, and the same words back; what a refused call leaves; what is seen of an accepted one, and
-- what each leaves
pub mod Returned
pub mod Refused
pub mod Seen
pub mod Accepted
pub mod Told
-- all that the caller is promised
pub mod Statements
