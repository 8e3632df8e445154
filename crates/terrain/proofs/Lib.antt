-- `Places`: the places of a list's elements. `Cells`: runs of cells. `Terrain`: the cells within reach.
pub mod Places
pub mod Cells
pub mod Terrain
