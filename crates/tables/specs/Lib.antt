pub mod Limits
pub mod Lookups
pub mod Rows
pub mod Tables
pub mod Words
