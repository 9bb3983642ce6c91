pub mod Seeking
pub mod Settling
pub mod Replacing
pub mod Cutting
