use Rattle.std.proofs.Common.{ℕ, ◌/◌, ◌^◌, List, take, arith, length-take-le}
use Rattle.rows.specs.Rows.{downscaled}
use Rattle.rows.proofs.Laws.{length-downscaled, total-downscaled}
use Rattle.rows.proofs.Adds as adds
use Rattle.exponential.proofs.adding.place.Goals as goal

pub record-requires : goal.record-requires
record-requires c =
    let D : List ℕ = downscaled c.args.k c.args.row.start (take c.args.row.len c.args.counts.now) in
    let all = adds.ready c.args.counts.now (D) (c.args.row.start / 2 ^ c.args.k) c.args.bin c.lower-low.result.start c.lower-low.result.len c.lower-low.new.counts
    c.lower-low.ensures.start c.lower-low.ensures.len c.lower-low.ensures.now
    (omega (arith, c, length-downscaled c.args.k c.args.row.start (take c.args.row.len c.args.counts.now), length-take-le c.args.row.len c.args.counts.now c.requires.len_in_bounds.0))
    c.requires.bin_in_bounds
    (omega (arith, c, total-downscaled c.args.k c.args.row.start (take c.args.row.len c.args.counts.now))) in record { len_in_bounds = all.0; index_in_bounds = all.1.0; counts_bound = all.1.1 }

pub returns : goal.returns
returns c =
    let D : List ℕ = downscaled c.args.k c.args.row.start (take c.args.row.len c.args.counts.now) in
    let q = adds.done c.args.counts.now (D) (c.args.row.start / 2 ^ c.args.k) c.args.bin c.lower-low.result.start c.lower-low.result.len c.lower-low.new.counts
    c.lower-low.ensures.start c.lower-low.ensures.len c.lower-low.ensures.now
    c.«record».result.start c.«record».result.len c.«record».new.counts (c.«record».ensures.start_value, (c.«record».ensures.len_value, c.«record».ensures.counts_after)) in
    record { start = q.0; len = q.1.0; now = q.1.1 }
