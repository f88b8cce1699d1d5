-- What the exported calls' contracts cite.
pub mod Words
