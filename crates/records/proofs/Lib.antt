-- The laws that the proofs of this crate share.
pub mod Fill
pub mod Onward
