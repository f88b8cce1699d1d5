-- `directory::find::by_birth` meets its contract. Assumes nothing.
use Rattle.std.proofs.Common.{◌≡◌, ℕ, ◌<◌, Bool, ◌&&◌, eqb, ltb, [], length, get_or, sym, ap, ◌∙◌, arith}
use Rattle.directory.specs.View.{Stores, birth_at}
use Rattle.directory.proofs.Handles.{scan-own, scan-last}
use Rattle.directory.proofs.find.by_birth.Goals as goal

pub returns-in-Some : goal.returns-in-Some
returns-in-Some c =
    let stores : Stores = record { sets = c.requires.1.sets; entries = c.args.entries.now; order = c.args.order.now } in
    let e = c.own_slot.ensures c.in-Some.x c.in-Some.is in
    sym (scan-own c.requires.1.limit c.args.d (stores) c.requires.1.right c.args.h c.in-Some.x e.0 e.1)

pub born_by-y-requires : goal.born_by-y-requires
born_by-y-requires c = (c.requires.0, c.requires.2)

pub birth_of-b-requires : goal.birth_of-b-requires
birth_of-b-requires c =
    let there : c.born_by-y.result < length c.args.entries.now = omega (arith, c.born_by-y.ensures.there, c.requires.0) in
    there

pub returns-then-names : goal.returns-then-names
returns-then-names c =
    let stores : Stores = record { sets = c.requires.1.sets; entries = c.args.entries.now; order = c.args.order.now } in
    let bound : Bool = ltb 0 (get_or (get_or c.args.entries.now c.born_by-y.result []) 1 0) in
    let asked : (eqb (birth_at c.args.entries.now c.born_by-y.result) c.args.h && bound) ≡ c.names.result = ap (λ (i : ℕ). eqb i c.args.h && bound) (sym c.birth_of-b.ensures) ∙ sym c.names.ensures in
    sym (scan-own c.requires.1.limit c.args.d (stores) c.requires.1.right c.args.h c.born_by-y.result c.born_by-y.ensures.there (asked ∙ c.if-names.true))

pub returns : goal.returns
returns c =
    let stores : Stores = record { sets = c.requires.1.sets; entries = c.args.entries.now; order = c.args.order.now } in
    let bound : Bool = ltb 0 (get_or (get_or c.args.entries.now c.born_by-y.result []) 1 0) in
    let asked : (eqb (birth_at c.args.entries.now c.born_by-y.result) c.args.h && bound) ≡ c.names.result = ap (λ (i : ℕ). eqb i c.args.h && bound) (sym c.birth_of-b.ensures) ∙ sym c.names.ensures in
    sym (scan-last c.requires.1.limit c.args.d (stores) c.requires.1.right c.args.h c.requires.2 c.born_by-y.result c.born_by-y.ensures (asked ∙ c.if-names.false))
