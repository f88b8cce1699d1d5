-- The definitions that the contracts and laws of `pooling` cite.
pub mod Lists
pub mod Entries
