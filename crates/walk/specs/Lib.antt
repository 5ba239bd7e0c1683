-- What the contracts of src/ cite, and those of the crates above.

-- the one walk over the holes, and what each walk answers by it
pub mod Walk
-- what a call leans on once a walk has come to the end
pub mod Settled
