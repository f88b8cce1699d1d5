-- What writing a sheet answers, and what it leaves in the lent bytes. Assumes nothing.
-- Document 02, L5: "The writer has one sheet for each header and list of points that agree"; numbers 8, 10.
-- L6: "An i64 point gives 11 .. right after 8, in a card or sheet": 8, 11, 10.
use Rattle.std.specs.Prelude.{ℕ, Bool, not, List, [], map, leb, length, get_or}
use Rattle.std.proofs.Math.Option.{none, some}
use Rattle.laws.specs.Over.{over}
use Rattle.laws.specs.Pick.{pick}
use Rattle.laws.specs.Said.{Said, refusal, success}
use Rattle.sets.specs.All.{allb}
use Rattle.whole_listing.specs.Words.{shadow_words, is_point}
use Rattle.pooling.specs.Lists.{Source}
use Rattle.sheets.specs.Sheet.{Sheet, written, writable}
use Rattle.sheets.specs.Lists.{listed}
use Rattle.sheets.specs.declared.Header.{Header}

-- the number of bytes that were written, with the lent bytes afterwards
pub record Outcome : Type 0 where
  pub answer : Said ℕ
  pub bytes : List ℕ

abbrev pub ends : Said ℕ → List ℕ → Outcome
ends r out = record { answer = r; bytes = out }

-- ---- points of f64 values

-- "8, 10": of a list that can't be written, or where the bytes are too few, all as it was. "Lent output past the result keeps what it held"
unfoldable pub writing_of : Sheet → List ℕ → Outcome
writing_of t out =
    pick (writable t)
    (pick (leb (length (written t)) (length out)) (ends (success (length (written t))) (over (written t) out)) (ends (refusal 10) out))
    (ends (refusal 8) out)

-- ---- and points of i64 values among them

-- twelve words, an i64 point's (`is_point` of whole_listing) as its shadow's: the f64 point with the same counts and switch, which is there, and
-- agrees, exactly where the i64 point does (`point-shadow`, `shadow-alone` of proofs/Wholes.antt)
abbrev pub shadowed_row : List ℕ → List ℕ
shadowed_row w = pick (is_point w) (shadow_words w) w

abbrev pub shadowed : Source → Source
shadowed x =
    let l = x.list in
    record { list = record { sets = l.sets; words = map shadowed_row l.words; pos = l.pos; neg = l.neg }; bounds = x.bounds }

-- none of the first n points is one of i64 values
unfoldable pub no_whole : ℕ → Source → Bool
no_whole n x = allb n (λ i. not (is_point (get_or x.list.words i [])))

-- THE CALL: 8 of any point or set comes before the 11 of an i64 point, and that before 10; of f64 points alone it is as above (`writing-reals`)
unfoldable pub writing : Header → ℕ → Source → List ℕ → Outcome
writing h n x out =
    elim (listed n (shadowed x)) [
      | none ↦ ends (refusal 8) out
      | some es ↦
          let t : Sheet = record { header = h; points = es } in
          pick (no_whole n x) (writing_of t out) (ends (refusal (pick (writable t) 11 8)) out)
    ]
