-- The points of the exponential kind over i64 in lent output. Assumes nothing.
use Rattle.std.specs.Prelude.{ℕ, Bool, [], take}
use Rattle.rows.specs.Parts.{part_at}
use Rattle.exponential_whole_slots.specs.Cells.{head_at}
use Rattle.whole_point.specs.Handing.{exponential_point}
use Rattle.whole_map.specs.Exponential.{exponential_wholes}
use Rattle.collecting.specs.Lister.{Lister}
use Rattle.whole_listing.specs.Read.{whole_lister}

-- a slot's point, and the first counts of its parts, as many as the head says; a point of this kind has no bounds
abbrev pub exponential_whole_lister : (size top : ℕ) (sums : Bool) → Lister (exponential_wholes size top sums)
exponential_whole_lister size top sums =
    whole_lister (exponential_wholes size top sums) (λ c. c.extremes) [] (λ w c x u. exponential_point (head_at top c x u) w sums)
    (λ c x u. take (head_at top c x u).counts.pos.len (part_at size c.pos x))
    (λ c x u. take (head_at top c x u).counts.neg.len (part_at size c.neg x))
