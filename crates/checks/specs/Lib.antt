pub mod Fits
pub mod Sound
