-- The laws.
pub mod Steps
pub mod AtSlot
