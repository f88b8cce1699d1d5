-- The laws of `sheet_writing`.
pub mod Steps
pub mod Judged
pub mod Putting
pub mod Walk
pub mod PutLaws
pub mod Wholes
pub mod Answered
