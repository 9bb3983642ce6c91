pub mod Refusals
pub mod GoTos
pub mod Sought
pub mod Settled
pub mod Listed
pub mod Carried
