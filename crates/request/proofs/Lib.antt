-- The laws that the proofs of the crates above share.

-- what a call comes to where its heap or its request is refused; and a request on its own
pub mod Requests
