pub mod Success
pub mod Told
pub mod Written
pub mod Sources
pub mod Limits
pub mod Passes
