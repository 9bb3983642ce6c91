pub mod Meant
pub mod Nearest
pub mod Resolved
pub mod Fitted
pub mod Gathered
pub mod Gathering
