-- The laws of `records`.
pub mod Bytes
pub mod Records
pub mod Links
pub mod Laid
pub mod Found
pub mod Padded
