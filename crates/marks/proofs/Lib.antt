-- `Filling`: the passes over the marks. `Windows`: a window by its corner and its size. `Showing`: the marks and the definitions, with the theorem of this crate.
pub mod Filling
pub mod Windows
pub mod Showing
