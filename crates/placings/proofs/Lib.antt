pub mod Order
pub mod Tree
pub mod Pattern
pub mod Enumeration
pub mod Verdict
pub mod Trials
pub mod Says
