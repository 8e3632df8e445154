-- What the contracts of this crate say, over the definitions of `model`.
pub mod Passing
