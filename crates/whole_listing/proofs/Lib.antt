-- The laws of `whole_listing`.
pub mod Shadow
pub mod Cases
pub mod Back
pub mod Given
pub mod Fits
pub mod There
pub mod Finds
pub mod Reading
pub mod Calls
pub mod Readers
