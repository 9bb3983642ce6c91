pub mod Answers
pub mod Leaves
pub mod Words
pub mod Rows
pub mod Stepping
pub mod Saying
