pub mod Refusals
pub mod Entries
pub mod State
pub mod Calls
pub mod Effects
pub mod Steps
pub mod Says
