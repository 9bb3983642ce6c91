pub mod Areas
pub mod Fetched
pub mod Fits
pub mod Gathers
pub mod Nearest
pub mod Serving
