pub mod Sound
pub mod Admitted
