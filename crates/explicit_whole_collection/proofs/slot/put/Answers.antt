-- `explicit_whole_collection::slot::put` meets its contract. Assumes nothing.
use Prim.Native.Nat.{ℕ, ◌+◌, ◌*◌, ◌≤◌}
use mathlib.Core.Path.{◌≡◌, refl, sym, ap, subst, ◌∙◌}
use mathlib.Core.Bool.{true}
use native.Mathlib.Omega.{arith}
use lib.ListN.{length}
use Rattle.rows.proofs.Parts.{part_length}
use Rattle.points.specs.Explicit.{bounds_pass, bucket_count}
use Rattle.laws.proofs.Bools.{pick_true, pick-false}
use Rattle.explicit_wholes.specs.declared.Head.{Head}
use Rattle.explicit_wholes.specs.Series.{fresh_head}
use Rattle.whole_point.specs.Handing.{explicit_point}
use Rattle.whole_listing.specs.Words.{words_of}
use Rattle.collecting.specs.Read.{span_of}
use Rattle.explicit_whole_slots.specs.Cells.{Cells, cells, head_at}
use Rattle.whole_map.proofs.ExplicitOwes.{owed}
use Rattle.listing.specs.Listed.{Output, output}
use Rattle.collecting.specs.Slots.{Place}
use Rattle.explicit_whole_collection.specs.Points.{explicit_whole_lister}
use Rattle.explicit_collection.proofs.Slots.{place_of, put-none, put-held, put_first}
use Rattle.explicit_whole_collection.proofs.slot.put.Goals as goal

pub returns-then-not-due : goal.returns-then-not-due
returns-then-not-due c =
    let lent : Cells = let a = c.args in cells a.totals.now a.extremes.now a.counts.now in
    let out : Output = let a = c.args in output a.out_sets.now a.out_words.now a.out_pos.now a.out_neg.now in
    let a = c.args in
    put-none (explicit_whole_lister a.bounds.now a.sums) a.show a.updated a.due (lent) a.x a.row a.at (out) c.if-not-due.true

pub put_fresh-requires : goal.put_fresh-requires
put_fresh-requires c =
    let passing : bounds_pass c.args.bounds.now ≡ true = (owed c.args.bounds.now c.args.sums).valid c.requires.sound.set c.args.show in
    let out : Output = let a = c.args in output a.out_sets.now a.out_words.now a.out_pos.now a.out_neg.now in
    let place : Place c.args.at (out) (bucket_count c.args.bounds.now) 0 =
    let a = c.args in
    place_of a.bounds.now a.counts.now a.x c.requires.sound.room.counts a.updated a.at (out) (c.requires.free c.if-not-due.false) in
    record { bounds_value = passing; place = place }

pub returns-then-not-updated : goal.returns-then-not-updated
returns-then-not-updated c =
    let lent : Cells = let a = c.args in cells a.totals.now a.extremes.now a.counts.now in
    let out : Output = let a = c.args in output a.out_sets.now a.out_words.now a.out_pos.now a.out_neg.now in
    let words-of : (h : Head) → h ≡ head_at (lent) c.args.x c.args.updated → words_of (explicit_point h c.args.show c.args.sums) (span_of c.args.bounds.now)
    ≡ (explicit_whole_lister c.args.bounds.now c.args.sums).words c.args.show (lent) c.args.x c.args.updated = λ h e. let a = c.args in ap (λ (h : Head). words_of (explicit_point h a.show a.sums) (span_of a.bounds.now)) e in
    let a = c.args in
    c.put_fresh.ensures
    ∙ put_first (explicit_whole_lister a.bounds.now a.sums) a.show a.updated a.due (lent) a.x a.row a.at (out) a.bounds.now a.counts.now
    c.requires.sound.room.counts refl refl c.if-not-due.false _
    (words-of fresh_head (sym (pick-false a.updated _ fresh_head c.if-not-updated.true))) c.if-not-updated.true

pub overflow_mul-a : goal.overflow_mul-a
overflow_mul-a c =
    let end : c.args.x * c.bucket_count-n.result + c.bucket_count-n.result ≤ length c.args.counts.now = let a = c.args in subst (λ (k : ℕ). a.x * k + k ≤ length a.counts.now) (sym c.bucket_count-n.ensures) c.requires.sound.room.counts in
    omega (arith, end)

pub overflow_add-e : goal.overflow_add-e
overflow_add-e c =
    let end : c.args.x * c.bucket_count-n.result + c.bucket_count-n.result ≤ length c.args.counts.now = let a = c.args in subst (λ (k : ℕ). a.x * k + k ≤ length a.counts.now) (sym c.bucket_count-n.ensures) c.requires.sound.room.counts in
    omega (arith, end)

pub slice_bounds-put_point-end : goal.slice_bounds-put_point-end
slice_bounds-put_point-end c =
    let end : c.args.x * c.bucket_count-n.result + c.bucket_count-n.result ≤ length c.args.counts.now = let a = c.args in subst (λ (k : ℕ). a.x * k + k ≤ length a.counts.now) (sym c.bucket_count-n.ensures) c.requires.sound.room.counts in
    end

pub put_point-requires : goal.put_point-requires
put_point-requires c =
    let passing : bounds_pass c.args.bounds.now ≡ true = (owed c.args.bounds.now c.args.sums).valid c.requires.sound.set c.args.show in
    let end : c.args.x * c.bucket_count-n.result + c.bucket_count-n.result ≤ length c.args.counts.now = let a = c.args in subst (λ (k : ℕ). a.x * k + k ≤ length a.counts.now) (sym c.bucket_count-n.ensures) c.requires.sound.room.counts in
    let out : Output = let a = c.args in output a.out_sets.now a.out_words.now a.out_pos.now a.out_neg.now in
    let place : Place c.args.at (out) (bucket_count c.args.bounds.now) 0 =
    let a = c.args in
    place_of a.bounds.now a.counts.now a.x c.requires.sound.room.counts a.updated a.at (out) (c.requires.free c.if-not-due.false) in
    let a = c.args in record { bounds_value = (passing, omega (arith, c.bucket_count-n.ensures, part_length c.bucket_count-n.result a.counts.now a.x (end))); place = place }

pub returns : goal.returns
returns c =
    let lent : Cells = let a = c.args in cells a.totals.now a.extremes.now a.counts.now in
    let out : Output = let a = c.args in output a.out_sets.now a.out_words.now a.out_pos.now a.out_neg.now in
    let words-of : (h : Head) → h ≡ head_at (lent) c.args.x c.args.updated → words_of (explicit_point h c.args.show c.args.sums) (span_of c.args.bounds.now)
    ≡ (explicit_whole_lister c.args.bounds.now c.args.sums).words c.args.show (lent) c.args.x c.args.updated = λ h e. let a = c.args in ap (λ (h : Head). words_of (explicit_point h a.show a.sums) (span_of a.bounds.now)) e in
    let a = c.args in
    c.put_point.ensures
    ∙ put-held (explicit_whole_lister a.bounds.now a.sums) a.show a.updated a.due (lent) a.x a.row a.at (out) a.bounds.now a.counts.now
    c.requires.sound.room.counts refl refl c.if-not-due.false _
    (words-of c.head_at-head.result (c.head_at-head.ensures ∙ sym (pick_true a.updated _ fresh_head c.if-not-updated.false)))
    c.if-not-updated.false c.bucket_count-n.result c.bucket_count-n.ensures
