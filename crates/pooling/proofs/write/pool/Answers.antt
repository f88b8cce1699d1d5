-- `pooling::write::pool` meets its contract. Assumes nothing.
use Prim.Native.Nat.{◌≤◌, ◌<◌}
use mathlib.Core.Path.{◌≡◌, sym, ◌∙◌}
use mathlib.Core.Bool.{true}
use native.Mathlib.Omega.{arith}
use borrow.Author.Rules.{rules}
use lib.ListN.{length}
use Rattle.std.specs.Prelude.{Err}
use Rattle.refusals.specs.Refusals.{number}
use Rattle.refusals.proofs.Numbers.{passed-on}
use Rattle.point.specs.Handing.{Stored}
use Rattle.listing.specs.Listed.{Output}
use Rattle.pooling.specs.Entries.{stored_of}
use Rattle.pooling.proofs.Whole.{bounds-long}
use Rattle.pooling.proofs.Placed.{place-says, start-le, refused_law, placeless_law, goes, accepted_law}
use Rattle.pooling.proofs.write.pool.Goals as goal

pub offset_bounds-pos-i : goal.offset_bounds-pos-i
offset_bounds-pos-i c =
    let place : c.has_place-ok.result ≡ true → (c.args.at.place < length c.args.sets.now) × (c.args.at.place < length c.args.words.now)
    × (c.args.at.pos ≤ length c.args.pos.now) × (c.args.at.neg ≤ length c.args.neg.now) =
    λ t. place-says c.args.at (length c.args.sets.now) (length c.args.words.now) (length c.args.pos.now) (length c.args.neg.now)
    (sym c.has_place-ok.ensures ∙ t) in
    let pos-in : c.start_of-i.result ≤ length c.args.pos.now = start-le c.has_place-ok.result c.args.at.pos (length c.args.pos.now) c.start_of-i.result (λ t. (place t).2) c.start_of-i.ensures in
    search rules

pub offset_bounds-neg-j : goal.offset_bounds-neg-j
offset_bounds-neg-j c =
    let place : c.has_place-ok.result ≡ true → (c.args.at.place < length c.args.sets.now) × (c.args.at.place < length c.args.words.now)
    × (c.args.at.pos ≤ length c.args.pos.now) × (c.args.at.neg ≤ length c.args.neg.now) =
    λ t. place-says c.args.at (length c.args.sets.now) (length c.args.words.now) (length c.args.pos.now) (length c.args.neg.now)
    (sym c.has_place-ok.ensures ∙ t) in
    let neg-in : c.start_of-j.result ≤ length c.args.neg.now = start-le c.has_place-ok.result c.args.at.neg (length c.args.neg.now) c.start_of-j.result (λ t. (place t).3) c.start_of-j.ensures in
    search rules

pub slice_bounds-merge_entries-count : goal.slice_bounds-merge_entries-count
slice_bounds-merge_entries-count c =
    let place : c.has_place-ok.result ≡ true → (c.args.at.place < length c.args.sets.now) × (c.args.at.place < length c.args.words.now)
    × (c.args.at.pos ≤ length c.args.pos.now) × (c.args.at.neg ≤ length c.args.neg.now) =
    λ t. place-says c.args.at (length c.args.sets.now) (length c.args.words.now) (length c.args.pos.now) (length c.args.neg.now)
    (sym c.has_place-ok.ensures ∙ t) in
    let pos-in : c.start_of-i.result ≤ length c.args.pos.now = start-le c.has_place-ok.result c.args.at.pos (length c.args.pos.now) c.start_of-i.result (λ t. (place t).2) c.start_of-i.ensures in
    pos-in

pub slice_bounds-merge_entries-start : goal.slice_bounds-merge_entries-start
slice_bounds-merge_entries-start c =
    let place : c.has_place-ok.result ≡ true → (c.args.at.place < length c.args.sets.now) × (c.args.at.place < length c.args.words.now)
    × (c.args.at.pos ≤ length c.args.pos.now) × (c.args.at.neg ≤ length c.args.neg.now) =
    λ t. place-says c.args.at (length c.args.sets.now) (length c.args.words.now) (length c.args.pos.now) (length c.args.neg.now)
    (sym c.has_place-ok.ensures ∙ t) in
    let pos-in : c.start_of-i.result ≤ length c.args.pos.now = start-le c.has_place-ok.result c.args.at.pos (length c.args.pos.now) c.start_of-i.result (λ t. (place t).2) c.start_of-i.ensures in
    pos-in

pub slice_bounds-merge_entries-count-2 : goal.slice_bounds-merge_entries-count-2
slice_bounds-merge_entries-count-2 c =
    let place : c.has_place-ok.result ≡ true → (c.args.at.place < length c.args.sets.now) × (c.args.at.place < length c.args.words.now)
    × (c.args.at.pos ≤ length c.args.pos.now) × (c.args.at.neg ≤ length c.args.neg.now) =
    λ t. place-says c.args.at (length c.args.sets.now) (length c.args.words.now) (length c.args.pos.now) (length c.args.neg.now)
    (sym c.has_place-ok.ensures ∙ t) in
    let neg-in : c.start_of-j.result ≤ length c.args.neg.now = start-le c.has_place-ok.result c.args.at.neg (length c.args.neg.now) c.start_of-j.result (λ t. (place t).3) c.start_of-j.ensures in
    neg-in

pub slice_bounds-merge_entries-start-2 : goal.slice_bounds-merge_entries-start-2
slice_bounds-merge_entries-start-2 c =
    let place : c.has_place-ok.result ≡ true → (c.args.at.place < length c.args.sets.now) × (c.args.at.place < length c.args.words.now)
    × (c.args.at.pos ≤ length c.args.pos.now) × (c.args.at.neg ≤ length c.args.neg.now) =
    λ t. place-says c.args.at (length c.args.sets.now) (length c.args.words.now) (length c.args.pos.now) (length c.args.neg.now)
    (sym c.has_place-ok.ensures ∙ t) in
    let neg-in : c.start_of-j.result ≤ length c.args.neg.now = start-le c.has_place-ok.result c.args.at.neg (length c.args.neg.now) c.start_of-j.result (λ t. (place t).3) c.start_of-j.ensures in
    neg-in

pub returns-then-not-ok : goal.returns-then-not-ok
returns-then-not-ok c =
    let first : Stored = stored_of c.args.a c.args.e c.args.abounds.now c.args.apos.now c.args.aneg.now in
    let second : Stored = stored_of c.args.b c.args.f c.args.bbounds.now c.args.bpos.now c.args.bneg.now in
    let long : length (first).bounds ≡ c.args.e.bounds.len = bounds-long c.args.e.bounds c.args.abounds.now c.requires.0.bounds in
    let lent : Output = record { sets = c.args.sets.now; words = c.args.words.now; pos = c.args.pos.now; neg = c.args.neg.now } in
    placeless_law c.args.size (first) (second) c.args.at c.args.row c.args.e.bounds (long) (lent) c.start_of-i.result c.start_of-j.result
    c.has_place-ok.result c.has_place-ok.ensures c.start_of-i.ensures c.start_of-j.ensures c.merge_entries.new.pos c.merge_entries.new.neg c.in_ok-p.p
    c.in_ok-p.ensures (c.if-not-ok.true)

pub cursor_behind-next-requires : goal.cursor_behind-next-requires
cursor_behind-next-requires c =
    let first : Stored = stored_of c.args.a c.args.e c.args.abounds.now c.args.apos.now c.args.aneg.now in
    let second : Stored = stored_of c.args.b c.args.f c.args.bbounds.now c.args.bpos.now c.args.bneg.now in
    let long : length (first).bounds ≡ c.args.e.bounds.len = bounds-long c.args.e.bounds c.args.abounds.now c.requires.0.bounds in
    let lent : Output = record { sets = c.args.sets.now; words = c.args.words.now; pos = c.args.pos.now; neg = c.args.neg.now } in
    let place : c.has_place-ok.result ≡ true → (c.args.at.place < length c.args.sets.now) × (c.args.at.place < length c.args.words.now)
    × (c.args.at.pos ≤ length c.args.pos.now) × (c.args.at.neg ≤ length c.args.neg.now) =
    λ t. place-says c.args.at (length c.args.sets.now) (length c.args.words.now) (length c.args.pos.now) (length c.args.neg.now)
    (sym c.has_place-ok.ensures ∙ t) in
    let pos-in : c.start_of-i.result ≤ length c.args.pos.now = start-le c.has_place-ok.result c.args.at.pos (length c.args.pos.now) c.start_of-i.result (λ t. (place t).2) c.start_of-i.ensures in
    let neg-in : c.start_of-j.result ≤ length c.args.neg.now = start-le c.has_place-ok.result c.args.at.neg (length c.args.neg.now) c.start_of-j.result (λ t. (place t).3) c.start_of-j.ensures in
    let t = c.if-not-ok.false in
    goes c.args.size (first) (second) c.args.at c.args.row c.args.e.bounds (long) (lent) c.start_of-i.result c.start_of-j.result
    c.has_place-ok.result c.has_place-ok.ensures c.start_of-i.ensures c.start_of-j.ensures c.merge_entries.new.pos c.merge_entries.new.neg c.in_ok-p.p
    c.in_ok-p.ensures t
    (omega (arith, (place t).0)) (pos-in) (neg-in)
    (omega (arith)) (omega (arith))

pub returns-in_err-p : goal.returns-in_err-p
returns-in_err-p c =
    let first : Stored = stored_of c.args.a c.args.e c.args.abounds.now c.args.apos.now c.args.aneg.now in
    let second : Stored = stored_of c.args.b c.args.f c.args.bbounds.now c.args.bpos.now c.args.bneg.now in
    let long : length (first).bounds ≡ c.args.e.bounds.len = bounds-long c.args.e.bounds c.args.abounds.now c.requires.0.bounds in
    let lent : Output = record { sets = c.args.sets.now; words = c.args.words.now; pos = c.args.pos.now; neg = c.args.neg.now } in
    let told : c.from_residual.result ≡ Err c.in_err-p.field-0.0 = passed-on c.from_residual.result c.in_err-p.field-0.0 c.from_residual.ensures.1 in
    rw told (refused_law c.args.size (first) (second) c.args.at c.args.row c.args.e.bounds (long) (lent) c.start_of-i.result c.start_of-j.result
    c.has_place-ok.result c.has_place-ok.ensures c.start_of-i.ensures c.start_of-j.ensures c.merge_entries.new.pos c.merge_entries.new.neg (number c.in_err-p.field-0.0)
    c.in_err-p.ensures)

pub returns : goal.returns
returns c =
    let first : Stored = stored_of c.args.a c.args.e c.args.abounds.now c.args.apos.now c.args.aneg.now in
    let second : Stored = stored_of c.args.b c.args.f c.args.bbounds.now c.args.bpos.now c.args.bneg.now in
    let long : length (first).bounds ≡ c.args.e.bounds.len = bounds-long c.args.e.bounds c.args.abounds.now c.requires.0.bounds in
    let lent : Output = record { sets = c.args.sets.now; words = c.args.words.now; pos = c.args.pos.now; neg = c.args.neg.now } in
    let there : c.has_place-ok.result ≡ true = c.if-not-ok.false in
    accepted_law c.args.size (first) (second) c.args.at c.args.row c.args.e.bounds (long) (lent) c.start_of-i.result c.start_of-j.result
    c.has_place-ok.result c.has_place-ok.ensures c.start_of-i.ensures c.start_of-j.ensures c.merge_entries.new.pos c.merge_entries.new.neg c.in_ok-p.p
    c.in_ok-p.ensures (there)
    c.words_of.result c.cursor_behind-next.result c.words_of.ensures c.cursor_behind-next.ensures
