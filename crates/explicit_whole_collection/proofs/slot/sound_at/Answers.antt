-- `explicit_whole_collection::slot::sound_at` meets its contract. Assumes nothing.
use Prim.Native.Nat.{ℕ, ◌+◌, ◌*◌, ◌≤◌}
use mathlib.Core.Path.{sym, ap, subst, ◌∙◌}
use mathlib.Core.Bool.{Bool, not, ◌||◌}
use native.Mathlib.Omega.{arith}
use lib.ListN.{length}
use Rattle.explicit_whole_slots.specs.Cells.{Cells}
use Rattle.collecting.proofs.Sure.{sound-known}
use Rattle.explicit_whole_collection.specs.Ready.{counting}
use Rattle.explicit_whole_collection.proofs.Slots.{agrees_at, tested}
use Rattle.explicit_whole_collection.proofs.slot.sound_at.Goals as goal

pub returns-then-known : goal.returns-then-known
returns-then-known c = sound-known c.args.updated _ (c.requires.known c.if-known.true)

pub overflow_mul-a : goal.overflow_mul-a
overflow_mul-a c =
    let end : c.args.x * c.bucket_count-n.result + c.bucket_count-n.result ≤ length c.args.counts.now = let a = c.args in subst (λ (k : ℕ). a.x * k + k ≤ length a.counts.now) (sym c.bucket_count-n.ensures) c.requires.room.counts in
    omega (arith, end)

pub overflow_add-e : goal.overflow_add-e
overflow_add-e c =
    let end : c.args.x * c.bucket_count-n.result + c.bucket_count-n.result ≤ length c.args.counts.now = let a = c.args in subst (λ (k : ℕ). a.x * k + k ≤ length a.counts.now) (sym c.bucket_count-n.ensures) c.requires.room.counts in
    omega (arith, end)

pub slice_bounds-buckets_agree-end : goal.slice_bounds-buckets_agree-end
slice_bounds-buckets_agree-end c =
    let end : c.args.x * c.bucket_count-n.result + c.bucket_count-n.result ≤ length c.args.counts.now = let a = c.args in subst (λ (k : ℕ). a.x * k + k ≤ length a.counts.now) (sym c.bucket_count-n.ensures) c.requires.room.counts in
    end

pub returns : goal.returns
returns c =
    let lent : Cells = counting c.args.totals.now c.args.counts.now in
    let a = c.args in
    tested a.bounds.now (lent) a.x c.bucket_count-n.result c.bucket_count-n.ensures c.buckets_agree.result c.buckets_agree.ensures
    ∙ ap (λ (u : Bool). not u || agrees_at a.bounds.now (lent) a.x) (sym c.if-not-updated.false)
