pub mod Packs
pub mod Bounds
