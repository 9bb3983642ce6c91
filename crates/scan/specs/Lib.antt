pub mod Ends
pub mod Rows
pub mod Steps
pub mod Elements
pub mod Left
pub mod Starts
pub mod Answers
