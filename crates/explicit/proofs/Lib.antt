-- The laws of the explicit kind.
pub mod Turns
pub mod Cases
pub mod Writes
pub mod Listed
