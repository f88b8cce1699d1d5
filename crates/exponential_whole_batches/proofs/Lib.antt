pub mod Turn
pub mod AtSlot
