-- The definitions that the contracts of `whole_printing` cite.
pub mod Printed
