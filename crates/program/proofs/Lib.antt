-- The laws that the proofs of this crate share.
pub mod Stages
pub mod Checking
pub mod Long
pub mod Whole
