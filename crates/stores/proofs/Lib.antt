pub mod Bounds
pub mod Calls
pub mod Parts
pub mod Puts
pub mod Shown
pub mod Writes
