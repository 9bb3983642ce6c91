pub mod Names
pub mod Starts
pub mod Tables
