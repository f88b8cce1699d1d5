-- The definitions that the contracts of `replay_batches` cite.
pub mod Batched
