-- Laws that the proofs of the stage cite.
pub mod One
