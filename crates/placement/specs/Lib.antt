-- What the contracts of this crate's functions say, over the definitions of `model`.
pub mod Assessed
