-- The laws that the proofs of several functions cite.
pub mod Each
pub mod Puts
pub mod Written
pub mod Plans
