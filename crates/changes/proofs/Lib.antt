pub mod Copies
pub mod Fetches
pub mod Limits
pub mod Passes
pub mod Places
pub mod Sources
pub mod Written
pub mod Writes
