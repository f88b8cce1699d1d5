-- The definitions that every contract of a call that may refuse cites.
pub mod Refusals
