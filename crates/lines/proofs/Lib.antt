-- The laws.
pub mod Scanning
pub mod Parting
pub mod Colons
pub mod Gathering
pub mod Digits
pub mod Signs
pub mod Newlines
