-- The definitions that the contracts of `single_batches` cite.
pub mod Inner
