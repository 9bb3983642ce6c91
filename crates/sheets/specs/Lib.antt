pub mod Causes
pub mod Faults
pub mod Items
pub mod Labels
pub mod LineFaults
pub mod Parts
pub mod Sheets
pub mod Tallies
