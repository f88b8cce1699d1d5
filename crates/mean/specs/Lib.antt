-- The definitions that the contracts of `mean` cite, and the mean of a list of values.
pub mod Rule
pub mod Rounding
pub mod Mean
pub mod Values
pub mod Inner
