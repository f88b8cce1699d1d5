-- `slot::record_all` meets its contract. Assumes nothing.
use Prim.Native.Nat.{ℕ, ◌+◌, ◌*◌, ◌≤◌}
use mathlib.Core.Path.{◌≡◌, sym, ap, subst, ◌∙◌}
use mathlib.Core.Bool.{true}
use native.Mathlib.Omega.{arith}
use lib.ListN.{length}
use Rattle.rows.specs.Parts.{part_at}
use Rattle.rows.proofs.Parts.{part_length}
use Rattle.refusals.specs.Refusals.{code}
use Rattle.many.specs.Many.{Many}
use Rattle.points.specs.Explicit.{bucket_count}
use Rattle.explicit_wholes.specs.declared.Head.{Head}
use Rattle.explicit_whole_slots.specs.Cells.{Cells, cells, head_in}
use Rattle.explicit_whole_batches.specs.Values.{Series}
use Rattle.explicit_whole_batches.specs.Slot.{agrees_if, entering}
use Rattle.explicit_whole_batches.proofs.Entered.{passes, known-row, kept_law}
use Rattle.explicit_whole_batches.proofs.slot.record_all.Goals as goal

pub overflow_mul-a : goal.overflow_mul-a
overflow_mul-a c =
    let end : c.args.x * c.bucket_count-n.result + c.bucket_count-n.result ≤ length c.args.counts.now = let a = c.args in subst (λ (k : ℕ). a.x * k + k ≤ length a.counts.now) (sym c.bucket_count-n.ensures) c.requires.room.counts in
    omega (arith, end)

pub overflow_add-e : goal.overflow_add-e
overflow_add-e c =
    let end : c.args.x * c.bucket_count-n.result + c.bucket_count-n.result ≤ length c.args.counts.now = let a = c.args in subst (λ (k : ℕ). a.x * k + k ≤ length a.counts.now) (sym c.bucket_count-n.ensures) c.requires.room.counts in
    omega (arith, end)

pub slice_bounds-enter_all-end : goal.slice_bounds-enter_all-end
slice_bounds-enter_all-end c =
    let end : c.args.x * c.bucket_count-n.result + c.bucket_count-n.result ≤ length c.args.counts.now = let a = c.args in subst (λ (k : ℕ). a.x * k + k ≤ length a.counts.now) (sym c.bucket_count-n.ensures) c.requires.room.counts in
    end

pub enter_all-run-requires : goal.enter_all-run-requires
enter_all-run-requires c =
    let lent : Cells = let a = c.args in cells a.totals.now a.extremes.now a.counts.now in
    let end : c.args.x * c.bucket_count-n.result + c.bucket_count-n.result ≤ length c.args.counts.now = let a = c.args in subst (λ (k : ℕ). a.x * k + k ≤ length a.counts.now) (sym c.bucket_count-n.ensures) c.requires.room.counts in
    let a = c.args in
    let bs = a.bounds.now in
    let i : c.bucket_count-n.result ≡ bucket_count bs = c.bucket_count-n.ensures in (
      passes a.known bs a.sums a.x a.updated (lent) a.values.now c.requires,
      omega (arith, i, part_length c.bucket_count-n.result a.counts.now a.x (end)),
      λ e.
          subst (λ (y : Head). agrees_if bs a.updated y.count (part_at c.bucket_count-n.result a.counts.now a.x) ≡ true) (sym c.head_with-head.ensures)
          (subst (λ (n : ℕ). agrees_if bs a.updated (head_in (lent) a.x).count (part_at n a.counts.now a.x) ≡ true) (sym i)
          (known-row a.known bs a.sums a.x a.updated (lent) a.values.now c.requires e)),
    )

pub keep-requires : goal.keep-requires
keep-requires c = (c.requires.room.totals, c.requires.room.extremes)

pub returns : goal.returns
returns c =
    let lent : Cells = let a = c.args in cells a.totals.now a.extremes.now a.counts.now in
    let a = c.args in
    let m : Many Series = record { taken = c.enter_all-run.result.taken; no = code c.enter_all-run.result.end; left = record { head = c.enter_all-run.result.head; counts = c.enter_all-run.new.counts } } in
    kept_law a.known a.bounds.now a.sums a.x a.updated (lent) a.values.now c.requires c.bucket_count-n.result c.bucket_count-n.ensures
    m (c.enter_all-run.ensures ∙ ap (λ (y : Head). entering a.bounds.now a.sums a.updated y (part_at c.bucket_count-n.result a.counts.now a.x) a.values.now) c.head_with-head.ensures) c.keep.new.totals c.keep.ensures.totals_after c.keep.new.extremes c.keep.ensures.extremes_after
