pub mod Shifts
pub mod Packs
