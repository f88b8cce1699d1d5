-- ---- below zero: the law above zero, the rows in each other's place
-- ---- above zero
use Rattle.std.proofs.Common.{◌≡◌, Bool, true, false, sym, subst, arith}
use Rattle.exponential.specs.declared.Class.TheVariants.{At}
use Rattle.exponential.specs.declared.Counts.{Counts}
use Rattle.exponential.specs.Steps.{placed}
use Rattle.exponential.specs.Series.{read}
use Rattle.exponential.specs.Inner.{Ready, Written, one_more, signed}
use Rattle.exponential.proofs.Write.{swapped, written-swap}
use Rattle.exponential.proofs.Warm.{room_at, levels-at, put-at, ready-swap}
use Rattle.exponential.proofs.adding.place_at.Goals as goal

pub put-w-requires : goal.put-w-requires
put-w-requires c =
    let ready : (b : Bool) → c.args.negative ≡ b → Ready c.args.size c.args.top c.args.c c.args.pos.now c.args.neg.now (At b c.args.bin) =
    λ b e. let a = c.args in
    subst (λ (b : Bool). Ready a.size a.top a.c a.pos.now a.neg.now (At b a.bin)) e c.requires in
    let below : Ready c.args.size c.args.top (swapped c.args.c) c.args.neg.now c.args.pos.now (At false c.args.bin) =
    let a = c.args in
    ready-swap a.size a.top a.c a.pos.now a.neg.now a.bin (ready true c.if-negative.true) in
    let a = c.args in
    room_at a.size a.top (swapped a.c) a.neg.now a.pos.now a.bin (below)

pub one_more-requires : goal.one_more-requires
one_more-requires c =
    let ready : (b : Bool) → c.args.negative ≡ b → Ready c.args.size c.args.top c.args.c c.args.pos.now c.args.neg.now (At b c.args.bin) =
    λ b e. let a = c.args in
    subst (λ (b : Bool). Ready a.size a.top a.c a.pos.now a.neg.now (At b a.bin)) e c.requires in
    let below : Ready c.args.size c.args.top (swapped c.args.c) c.args.neg.now c.args.pos.now (At false c.args.bin) =
    let a = c.args in
    ready-swap a.size a.top a.c a.pos.now a.neg.now a.bin (ready true c.if-negative.true) in
    let a = c.args in
    ((below).count, omega (arith, c.put-w.ensures.k_value, levels-at a.size a.top (swapped a.c) a.neg.now a.pos.now a.bin (below)))

pub returns-then-negative : goal.returns-then-negative
returns-then-negative c =
    let ready : (b : Bool) → c.args.negative ≡ b → Ready c.args.size c.args.top c.args.c c.args.pos.now c.args.neg.now (At b c.args.bin) =
    λ b e. let a = c.args in
    subst (λ (b : Bool). Ready a.size a.top a.c a.pos.now a.neg.now (At b a.bin)) e c.requires in
    let below : Ready c.args.size c.args.top (swapped c.args.c) c.args.neg.now c.args.pos.now (At false c.args.bin) =
    let a = c.args in
    ready-swap a.size a.top a.c a.pos.now a.neg.now a.bin (ready true c.if-negative.true) in
    let a = c.args in
    let xs = a.pos.now in
    let ys = a.neg.now in
    subst (λ (b : Bool). Written (placed a.size (read a.c xs ys) (signed b a.bin)) xs ys c.one_more.result c.put-w.new.b c.put-w.new.a) (sym c.if-negative.true)
    (subst (λ (r : Counts). Written (placed a.size (read a.c xs ys) (signed true a.bin)) xs ys r c.put-w.new.b c.put-w.new.a) (sym c.one_more.ensures)
    (written-swap a.size a.bin a.c (one_more (swapped a.c) c.put-w.result.k c.put-w.result.to c.put-w.result.other) xs ys c.put-w.new.b c.put-w.new.a
    (put-at a.size a.top (swapped a.c) ys xs a.bin (below) c.put-w.result.k c.put-w.result.to c.put-w.result.other c.put-w.new.a c.put-w.new.b c.put-w.ensures.k_value c.put-w.ensures.laid c.put-w.ensures.laid_2)))

pub put-w-requires-2 : goal.put-w-requires-2
put-w-requires-2 c =
    let ready : (b : Bool) → c.args.negative ≡ b → Ready c.args.size c.args.top c.args.c c.args.pos.now c.args.neg.now (At b c.args.bin) =
    λ b e. let a = c.args in
    subst (λ (b : Bool). Ready a.size a.top a.c a.pos.now a.neg.now (At b a.bin)) e c.requires in
    let above : Ready c.args.size c.args.top c.args.c c.args.pos.now c.args.neg.now (At false c.args.bin) = ready false c.if-negative.false in
    let a = c.args in
    room_at a.size a.top a.c a.pos.now a.neg.now a.bin (above)

pub one_more-requires-2 : goal.one_more-requires-2
one_more-requires-2 c =
    let ready : (b : Bool) → c.args.negative ≡ b → Ready c.args.size c.args.top c.args.c c.args.pos.now c.args.neg.now (At b c.args.bin) =
    λ b e. let a = c.args in
    subst (λ (b : Bool). Ready a.size a.top a.c a.pos.now a.neg.now (At b a.bin)) e c.requires in
    let above : Ready c.args.size c.args.top c.args.c c.args.pos.now c.args.neg.now (At false c.args.bin) = ready false c.if-negative.false in
    let a = c.args in
    ((above).count, omega (arith, c.put-w-2.ensures.k_value, levels-at a.size a.top a.c a.pos.now a.neg.now a.bin (above)))

pub returns : goal.returns
returns c =
    let ready : (b : Bool) → c.args.negative ≡ b → Ready c.args.size c.args.top c.args.c c.args.pos.now c.args.neg.now (At b c.args.bin) =
    λ b e. let a = c.args in
    subst (λ (b : Bool). Ready a.size a.top a.c a.pos.now a.neg.now (At b a.bin)) e c.requires in
    let above : Ready c.args.size c.args.top c.args.c c.args.pos.now c.args.neg.now (At false c.args.bin) = ready false c.if-negative.false in
    let a = c.args in
    let xs = a.pos.now in
    let ys = a.neg.now in
    subst (λ (b : Bool). Written (placed a.size (read a.c xs ys) (signed b a.bin)) xs ys c.one_more-2.result c.put-w-2.new.a c.put-w-2.new.b) (sym c.if-negative.false)
    (subst (λ (r : Counts). Written (placed a.size (read a.c xs ys) (signed false a.bin)) xs ys r c.put-w-2.new.a c.put-w-2.new.b) (sym c.one_more-2.ensures)
    (put-at a.size a.top a.c xs ys a.bin (above) c.put-w-2.result.k c.put-w-2.result.to c.put-w-2.result.other c.put-w-2.new.a c.put-w-2.new.b c.put-w-2.ensures.k_value c.put-w-2.ensures.laid c.put-w-2.ensures.laid_2))
