-- The laws of `seats`.
pub mod Bars
pub mod Least
pub mod Seatings
pub mod Commits
pub mod Marked
pub mod Sits
pub mod Faithful
pub mod Keeps
pub mod Owns
pub mod Recording
pub mod Again
