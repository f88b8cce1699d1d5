-- The laws of `listing`.
pub mod Cases
pub mod Calls
pub mod Back
pub mod There
pub mod Lists
pub mod Given
