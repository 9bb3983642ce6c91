pub mod Modes
pub mod Pattern
pub mod Order
pub mod Placing
pub mod Tree
pub mod Enumeration
pub mod Says
pub mod Theorems
