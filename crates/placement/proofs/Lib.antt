-- The laws that the proofs of several functions cite.
pub mod Each
pub mod Plans
pub mod Counts
pub mod Parts
pub mod Assessed
