-- The theorems about the code, and the words that they use.
pub mod Runs
pub mod Owned
pub mod Numbers
pub mod Seen
pub mod Pooled
pub mod Points
pub mod Promises
pub mod Sheets
