-- `directory::find::locate_agreed` meets its contract. Assumes nothing.
use Rattle.std.proofs.Common.{◌≡◌, ℕ, suc, ◌<◌, ◌≤◌, [], length, get_or, sym, ◌∙◌, arith, rules}
use Prim.Native.Nat.{Ordering}
use Rattle.sets.specs.Rows.{size, set_of}
use Rattle.directory.specs.View.{Stores}
use Rattle.directory.proofs.Agreed.{slot-sizes, place-slot}
use Rattle.directory.proofs.Finds.{located-old, located-new, located-over-old, located-over}
use Rattle.directory.proofs.Laws.{place-climb, few, slots-right, places-right}
use Rattle.tally.specs.Sets.{cmp}
use Rattle.directory.proofs.find.locate_agreed.Goals as goal

pub find-requires : goal.find-requires
find-requires c =
    let stores : Stores = record { sets = c.args.sets.now; entries = c.args.entries.now; order = c.args.order.now } in
    let in-sets : c.args.d.used < length c.args.sets.now = omega (arith, few c.args.limit c.args.d (stores) c.requires.4, c.requires.0) in
    let in_order : c.args.d.used ≤ length c.args.order.now = omega (arith, few c.args.limit c.args.d (stores) c.requires.4, c.requires.2) in
    let slots-of : (k : ℕ) → k < c.args.d.used → (1 ≤ get_or c.args.order.now k 0) × (get_or c.args.order.now k 0 ≤ c.args.d.used) = place-slot c.args.d.used c.args.sets.now c.args.order.now (places-right c.args.limit c.args.d (stores) c.requires.4) in
    let sizes-of : (x : ℕ) → 1 ≤ x → x ≤ c.args.d.used → size (get_or c.args.sets.now x []) ≤ 8 = λ x h k. (slot-sizes c.args.d.used c.args.d.last c.args.sets.now c.args.entries.now (slots-right c.args.limit c.args.d (stores) c.requires.4) x h k).1 in
    let rise-of : (k : ℕ) → suc k < c.args.d.used → cmp (set_of (get_or c.args.sets.now (get_or c.args.order.now k 0) [])) (set_of (get_or c.args.sets.now (get_or c.args.order.now (suc k) 0) [])) ≡ Ordering.lt = place-climb c.args.d.used c.args.sets.now c.args.order.now (places-right c.args.limit c.args.d (stores) c.requires.4) in
    (in-sets, in_order, c.requires.3, slots-of, sizes-of, rise-of)

pub returns-then-d-limit : goal.returns-then-d-limit
returns-then-d-limit c =
    let stores : Stores = record { sets = c.args.sets.now; entries = c.args.entries.now; order = c.args.order.now } in
    sym (located-new c.args.limit c.args.d (stores) c.args.row.now c.requires.4 _ (sym c.find.ensures ∙ c.in-Err.is) c.if-d-limit.true)

pub find-requires-in-Err : goal.find-requires-in-Err
find-requires-in-Err c =
    let stores : Stores = record { sets = c.args.sets.now; entries = c.args.entries.now; order = c.args.order.now } in
    let in-sets : c.args.d.used < length c.args.sets.now = omega (arith, few c.args.limit c.args.d (stores) c.requires.4, c.requires.0) in
    let in_order : c.args.d.used ≤ length c.args.order.now = omega (arith, few c.args.limit c.args.d (stores) c.requires.4, c.requires.2) in
    let slots-of : (k : ℕ) → k < c.args.d.used → (1 ≤ get_or c.args.order.now k 0) × (get_or c.args.order.now k 0 ≤ c.args.d.used) = place-slot c.args.d.used c.args.sets.now c.args.order.now (places-right c.args.limit c.args.d (stores) c.requires.4) in
    let sizes-of : (x : ℕ) → 1 ≤ x → x ≤ c.args.d.used → size (get_or c.args.sets.now x []) ≤ 8 = λ x h k. (slot-sizes c.args.d.used c.args.d.last c.args.sets.now c.args.entries.now (slots-right c.args.limit c.args.d (stores) c.requires.4) x h k).1 in
    let rise-of : (k : ℕ) → suc k < c.args.d.used → cmp (set_of (get_or c.args.sets.now (get_or c.args.order.now k 0) [])) (set_of (get_or c.args.sets.now (get_or c.args.order.now (suc k) 0) [])) ≡ Ordering.lt = place-climb c.args.d.used c.args.sets.now c.args.order.now (places-right c.args.limit c.args.d (stores) c.requires.4) in
    (in-sets, in_order, search rules, slots-of, sizes-of, rise-of)

pub returns-in-Ok : goal.returns-in-Ok
returns-in-Ok c =
    let stores : Stores = record { sets = c.args.sets.now; entries = c.args.entries.now; order = c.args.order.now } in
    sym (located-old c.args.limit c.args.d (stores) c.args.row.now c.requires.4 _ (sym c.find.ensures ∙ c.in-Ok.is))

pub returns-in-Ok-find : goal.returns-in-Ok-find
returns-in-Ok-find c =
    let stores : Stores = record { sets = c.args.sets.now; entries = c.args.entries.now; order = c.args.order.now } in
    sym (located-over-old c.args.limit c.args.d (stores) c.args.row.now c.requires.4 _ (sym c.find.ensures ∙ c.in-Err.is) c.if-d-limit.false _ (sym c.find-in-Err.ensures ∙ c.in-Ok-find.is))

pub returns-in-Err-find : goal.returns-in-Err-find
returns-in-Err-find c =
    let stores : Stores = record { sets = c.args.sets.now; entries = c.args.entries.now; order = c.args.order.now } in
    sym (located-over c.args.limit c.args.d (stores) c.args.row.now c.requires.4 _ (sym c.find.ensures ∙ c.in-Err.is) c.if-d-limit.false _ (sym c.find-in-Err.ensures ∙ c.in-Err-find.is))
