-- The laws of `sheet_reading`.
pub mod FrameLaws
pub mod FloatLaws
pub mod SizeLaws
pub mod EntryLaws
pub mod JudgeLaws
pub mod TurnLaws
pub mod JudgedLaws
pub mod CopyLaws
pub mod WalkLaws
pub mod CopiedLaws
pub mod Answered
