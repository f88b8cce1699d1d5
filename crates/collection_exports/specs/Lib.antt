-- What the exported call's contract cites.
pub mod Words
