pub mod Accepted
pub mod Areas
pub mod Counts
pub mod Idles
pub mod Loops
