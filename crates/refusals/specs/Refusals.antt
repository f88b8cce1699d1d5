-- The number of each refusal, and a Result in document 01's words. Assumes nothing.
-- Document 01, "Answers of the calls": "Success is 0 with the result"; a refusal is its number. "When an answer is an enum, a definition
-- gives this paper's number and values for each case of that enum. The promises use that definition".
use Rattle.std.specs.Prelude.{ℕ, Result, Ok, Err}
use Rattle.laws.specs.Said.{Said, refusal, success}
use Rattle.refusals.specs.declared.Refusal.{Refusal}
use Rattle.refusals.specs.declared.Refusal.TheVariants as R

-- document 01's number
abbrev pub number : Refusal → ℕ
number R.MaxSize = 1
number R.MaxScale = 2
number R.Bounds = 3
number R.Limit = 4
number R.Attributes = 5
number R.NotFinite = 6
number R.NoHandle = 7
number R.Disagrees = 8
number R.Full = 9
number R.NoRoom = 10
number R.Unlike = 11
number R.LentShort = 12
number R.NoValues = 13
number R.OffGrid = 14
number R.NotASheet = 15
number R.SumOutside = 16

-- the number of an answer, 0 where nothing was refused
abbrev pub code : {A : Type 0} → Result A Refusal → ℕ
code (Ok a) = 0
code (Err e) = number e

-- an answer in document 01's words
abbrev pub said : {A : Type 0} → Result A Refusal → Said A
said (Ok a) = success a
said (Err e) = refusal (number e)
