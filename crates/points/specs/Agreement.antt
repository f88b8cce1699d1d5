-- When an exponential point agrees with itself. Assumes nothing.
-- Document 01: "An exponential series agrees when: scale is -10 to max_scale (10 in a merge); each row has at most max_size counts,
-- first and last not zero; every index lies from that of 2^-1074 to that of the greatest f64 at that scale; an empty row has offset
-- 0; count = zero count + both rows."
use Rattle.std.specs.Prelude.{ℕ, ◌+◌, ◌-◌, ◌/◌, ◌^◌, Bool, not, ◌&&◌, leb, eqb, length, get_or}
use Rattle.laws.specs.Pick.{pick}
use Rattle.laws.specs.Counting.{total}
use Rattle.index.specs.Bins.{finest, end_bin}
use Rattle.points.specs.Points.{Row, Point}

-- a row of at most size counts, its bins from low on and before end
unfoldable pub row_agrees : ℕ → ℕ → ℕ → Row → Bool
row_agrees size low end r =
    pick (eqb (length r.counts) 0)
    (eqb r.start 0)
    (leb (length r.counts) size
    && (leb low r.start
    && (leb (r.start + length r.counts) end
    && (not (eqb (get_or r.counts 0 0) 0)
    && not (eqb (get_or r.counts (length r.counts - 1) 0) 0)))))

-- a point under a size and a greatest level; low is the lowest finest bin, that of 2 ^ -1074
unfoldable pub agrees : ℕ → ℕ → ℕ → Point → Bool
agrees size top low p =
    leb (finest - top) p.d
    && (leb p.d finest
    && (row_agrees size (low / 2 ^ p.d) (end_bin (finest - p.d)) p.pos
    && (row_agrees size (low / 2 ^ p.d) (end_bin (finest - p.d)) p.neg
    && eqb p.total (p.zeros + (total p.pos.counts + total p.neg.counts)))))
