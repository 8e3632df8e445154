-- The laws that the functions' proofs cite.
pub mod Zeros
pub mod Answering
pub mod Reading
