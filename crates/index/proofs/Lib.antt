pub mod Ranks
mod Chords
pub mod Floats
pub mod Buckets
pub mod Finest
pub mod Integers
pub mod Cases
pub mod Laws
pub mod Indices
pub mod Whole
pub mod Casts
pub mod SignedCases
pub mod Values
