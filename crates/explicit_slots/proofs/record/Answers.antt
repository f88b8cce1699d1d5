-- `explicit_slots::record` meets its contract. Assumes nothing.
use Prim.Native.Nat.{ℕ, ◌+◌, ◌*◌, ◌≤◌}
use mathlib.Core.Path.{◌≡◌, ap, sym, subst, ◌∙◌}
use native.Mathlib.Omega.{arith}
use lib.ListN.{length}
use Rattle.rows.specs.Parts.{part_at, put_at}
use Rattle.rows.specs.Recording.{after}
use Rattle.rows.proofs.Parts.{part_length}
use Rattle.points.specs.Explicit.{bucket_count}
use Rattle.refusals.specs.Refusals.{number, code, said}
use Rattle.std.proofs.Common.{rules}
use Rattle.explicit_slots.specs.Cells.{Cells, Room, cells}
use Rattle.explicit_slots.proofs.Enters.{call-refused, call-recorded}
use Rattle.explicit_slots.proofs.record.Goals as goal

pub overflow_mul-a : goal.overflow_mul-a
overflow_mul-a c =
    let end : c.args.x * c.bucket_count-n.result + c.bucket_count-n.result ≤ length c.args.counts.now = let a = c.args in subst (λ (k : ℕ). a.x * k + k ≤ length a.counts.now) (sym c.bucket_count-n.ensures) c.requires.2 in
    omega (arith, end)

pub overflow_add-e : goal.overflow_add-e
overflow_add-e c =
    let end : c.args.x * c.bucket_count-n.result + c.bucket_count-n.result ≤ length c.args.counts.now = let a = c.args in subst (λ (k : ℕ). a.x * k + k ≤ length a.counts.now) (sym c.bucket_count-n.ensures) c.requires.2 in
    omega (arith, end)

pub offset_bounds-counts-a : goal.offset_bounds-counts-a
offset_bounds-counts-a c =
    let end : c.args.x * c.bucket_count-n.result + c.bucket_count-n.result ≤ length c.args.counts.now = let a = c.args in subst (λ (k : ℕ). a.x * k + k ≤ length a.counts.now) (sym c.bucket_count-n.ensures) c.requires.2 in
    omega (arith, end)

pub slice_bounds-enter-end : goal.slice_bounds-enter-end
slice_bounds-enter-end c =
    let end : c.args.x * c.bucket_count-n.result + c.bucket_count-n.result ≤ length c.args.counts.now = let a = c.args in subst (λ (k : ℕ). a.x * k + k ≤ length a.counts.now) (sym c.bucket_count-n.ensures) c.requires.2 in
    end

pub returns-in_err-head : goal.returns-in_err-head
returns-in_err-head c =
    let lent : Cells = let a = c.args in record { totals = a.totals.now; extremes = a.extremes.now; counts = a.counts.now } in
    let end : c.args.x * c.bucket_count-n.result + c.bucket_count-n.result ≤ length c.args.counts.now = let a = c.args in subst (λ (k : ℕ). a.x * k + k ≤ length a.counts.now) (sym c.bucket_count-n.ensures) c.requires.2 in
    let long : bucket_count c.args.bounds.now ≤ length (part_at c.bucket_count-n.result c.args.counts.now c.args.x) =
    let a = c.args in
    let i : c.bucket_count-n.result ≡ bucket_count a.bounds.now = c.bucket_count-n.ensures in
    omega (arith, i, part_length c.bucket_count-n.result a.counts.now a.x (end)) in
    let room : Room c.args.bounds.now (cells c.args.totals.now c.args.extremes.now c.args.counts.now) c.args.x = record { totals = c.requires.0; extremes = c.requires.1; counts = c.requires.2 } in
    let no : code c.from_residual.result ≡ number c.in_err-head.field-0.0 = search rules in
    let a = c.args in
    ap (λ (n : ℕ). after n (cells a.totals.now a.extremes.now (put_at c.bucket_count-n.result a.counts.now a.x c.enter.new.counts))) (no)
    ∙ call-refused a.bounds.now a.x a.updated (lent) a.v c.bucket_count-n.result c.bucket_count-n.ensures (said c.enter.result) c.enter.new.counts c.enter.ensures _ (ap said c.in_err-head.was) (long) (room) c.requires.3

pub returns : goal.returns
returns c =
    let lent : Cells = let a = c.args in record { totals = a.totals.now; extremes = a.extremes.now; counts = a.counts.now } in
    let room : Room c.args.bounds.now (cells c.args.totals.now c.args.extremes.now c.args.counts.now) c.args.x = record { totals = c.requires.0; extremes = c.requires.1; counts = c.requires.2 } in
    let a = c.args in
    call-recorded a.bounds.now a.x a.updated (lent) a.v c.bucket_count-n.result c.bucket_count-n.ensures (said c.enter.result) c.enter.new.counts c.enter.ensures _ (ap said c.in_ok-head.was) (room) c.requires.3
