-- The laws of points.
pub mod Calls
pub mod Laid
pub mod Means
pub mod Answers
pub mod Offsets
pub mod Shown
pub mod Lists
