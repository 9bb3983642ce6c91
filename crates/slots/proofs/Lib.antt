pub mod Writes
pub mod Slots
