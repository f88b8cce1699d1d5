-- The definitions that the contracts of `printing` cite.
pub mod Fields
pub mod Printed
