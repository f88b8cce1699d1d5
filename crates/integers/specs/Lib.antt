pub mod Answers
pub mod Nearest
pub mod Totals
