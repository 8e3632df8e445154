-- Laws of a building's sides on both axes.
pub mod Sides
