-- The laws of `sheet`.
pub mod Hex
pub mod Sheets
pub mod Following
