use Rattle.std.proofs.Common.{◌≡◌, ℕ, ◌/◌, ◌^◌, ◌≤◌, length, sym, ◌∙◌, subst, arith}
use Rattle.exponential.specs.Steps.{lowered, with1}
use Rattle.exponential.specs.Series.{row_in}
use Rattle.exponential.specs.Inner.{Laid, lower_by}
use Rattle.exponential.proofs.Write.{needed_in}
use Rattle.exponential.proofs.adding.put.Goals as goal

pub needed-k-requires : goal.needed-k-requires
needed-k-requires c = (c.requires.some, c.requires.bins)

pub overflow_shr-bin : goal.overflow_shr-bin
overflow_shr-bin c =
    let K : ℕ = lower_by c.args.size c.args.to c.args.a.now c.args.bin in
    let found : c.needed-k.result ≡ K = c.needed-k.ensures ∙ needed_in c.args.size c.args.to c.args.a.now c.args.bin c.requires.short in
    omega (arith, found, c.requires.few)

pub place-new-requires : goal.place-new-requires
place-new-requires c =
    let K : ℕ = lower_by c.args.size c.args.to c.args.a.now c.args.bin in
    let found : c.needed-k.result ≡ K = c.needed-k.ensures ∙ needed_in c.args.size c.args.to c.args.a.now c.args.bin c.requires.short in
    let q = sym (found) in record { len_in_bounds = (c.requires.short, omega (arith, found, c.requires.few)); counts_bound = c.requires.counts; bin_in_bounds = subst (λ (k : ℕ). length (with1 (lowered k (row_in c.args.to c.args.a.now)) (c.args.bin / 2 ^ k)).counts ≤ length c.args.a.now) q c.requires.fits }

pub lower-low-requires : goal.lower-low-requires
lower-low-requires c =
    let K : ℕ = lower_by c.args.size c.args.to c.args.a.now c.args.bin in
    let found : c.needed-k.result ≡ K = c.needed-k.ensures ∙ needed_in c.args.size c.args.to c.args.a.now c.args.bin c.requires.short in
    record { len_in_bounds = (c.requires.other, omega (arith, found, c.requires.few)); counts_bound = c.requires.others }

pub returns : goal.returns
returns c =
    let K : ℕ = lower_by c.args.size c.args.to c.args.a.now c.args.bin in
    let found : c.needed-k.result ≡ K = c.needed-k.ensures ∙ needed_in c.args.size c.args.to c.args.a.now c.args.bin c.requires.short in
    let q = found in record { k_value = q; laid = subst (λ (k : ℕ). Laid (with1 (lowered k (row_in c.args.to c.args.a.now)) (c.args.bin / 2 ^ k)) c.args.a.now c.place-new.result c.place-new.new.counts) q c.place-new.ensures; laid_2 = subst (λ (k : ℕ). Laid (lowered k (row_in c.args.other c.args.b.now)) c.args.b.now c.lower-low.result c.lower-low.new.counts) q c.lower-low.ensures }
