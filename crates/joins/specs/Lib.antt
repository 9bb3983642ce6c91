pub mod Joined
pub mod Renewed
pub mod Pieces
