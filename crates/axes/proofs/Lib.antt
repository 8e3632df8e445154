-- Laws of a building's sides on one axis.
pub mod Held
