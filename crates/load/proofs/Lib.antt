pub mod Loads
pub mod NameLoops
pub mod StartLoops
