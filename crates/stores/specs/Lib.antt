pub mod Names
pub mod Ranges
pub mod Calls
pub mod Puts
pub mod Parts
