-- `Some`: some number of a range, or element of a list, passes a test. `Adding`: what stamps add, one after the other. `Clipping`: a widened and clipped blocker.
-- `Edges`: the map's edge.
pub mod Some
pub mod Adding
pub mod Clipping
pub mod Edges
