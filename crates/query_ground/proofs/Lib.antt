-- Laws that the proofs of the stages cite.
pub mod Found
