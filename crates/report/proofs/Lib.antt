-- The laws that the proofs of this crate share.
pub mod Lines
pub mod Buildings
pub mod Sizes
pub mod Areas
