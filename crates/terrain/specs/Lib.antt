pub mod Terrain
