pub mod Joinings
pub mod Naming
pub mod Renewals
