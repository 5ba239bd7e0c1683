-- what an alignment that was let through is
pub mod Aligned
