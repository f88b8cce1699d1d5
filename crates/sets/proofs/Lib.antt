-- The laws of `sets`.
pub mod Alls
pub mod Spans
pub mod Words
pub mod Ways
pub mod Plains
pub mod Keyed
pub mod Partings
pub mod Moved
pub mod Attributes
pub mod Exact
pub mod Rising
pub mod CallRow
