-- The exponential kind's points in lent output. Assumes nothing.
use Rattle.std.specs.Prelude.{ℕ, [], take}
use Rattle.rows.specs.Parts.{part_at}
use Rattle.exponential_slots.specs.Cells.{head_at}
use Rattle.point.specs.Handing.{exponential_point}
use Rattle.value_map.specs.Exponential.{exponential_store}
use Rattle.collecting.specs.Lister.{Lister}
use Rattle.collecting.specs.Read.{histogram_lister}

-- a slot's point, and the first counts of its parts, as many as the head says; a point of this kind has no bounds
abbrev pub exponential_lister : (size top : ℕ) → Lister (exponential_store size top)
exponential_lister size top =
    histogram_lister (exponential_store size top) (λ c. c.extremes) [] (λ w c x u. exponential_point (head_at top c x u) w.0 w.1)
    (λ c x u. take (head_at top c x u).counts.pos.len (part_at size c.pos x))
    (λ c x u. take (head_at top c x u).counts.neg.len (part_at size c.neg x))
