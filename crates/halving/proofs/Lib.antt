-- The laws of the plain form.
pub mod Plain
pub mod Halves
