-- TWO WAYS THROUGH MANY VALUES that answer each one alike take as many, stop with the same number, and leave what belongs together. Assumes
-- nothing.
use Prim.Native.Nat.{ℕ, suc}
use mathlib.Core.Path.{◌≡◌, refl, sym, ap, subst, ◌∙◌}
use mathlib.Core.List.{List, [], ◌∷◌}
use native.Mathlib.Omega.{arith}
use lib.Dec.{eqb}
use lib.ListN.{get_or}
use borrow.Author.Tests.{eq-eqb, ne_eqb}
use Rattle.laws.specs.Pick.{pick}
use Rattle.rows.specs.Recording.{Recording}
use Rattle.many.specs.Many.{Many, stopped, one_more, each}
use Rattle.many.proofs.Turns.{either, each_on, each-stop, each_none}

pub pick_first : {A : Type 0} (n : ℕ) → n ≡ 0 → (p q : A) → pick (eqb n 0) p q ≡ p
unfolding pick
pick_first n e p q = rw (eq-eqb n 0 e)

pub pick_second : {A : Type 0} (n : ℕ) → (n ≡ 0 → ⊥) → (p q : A) → pick (eqb n 0) p q ≡ q
unfolding pick
pick_second n d p q = rw (ne_eqb n 0 d)

-- what is known of each element of a lent list, read as the code reads it
abbrev pub Elements : {A : Type 0} → (A → Type 0) → A → List A → Type 0
Elements P nought vs = (i : ℕ) → P (get_or vs i nought)

module _ {A L M : Type 0} (f : L → A → Recording L) (g : M → A → Recording M) (R : L → M → Type 0) where
  -- one value: the same number, and what is left belongs together
  pub record Answers (l : L) (m : M) (v : A) : Type 0 where
    pub no : (f l v).no ≡ (g m v).no
    pub cells : R (f l v).cells (g m v).cells

  -- many
  pub record Alike (p : Many L) (q : Many M) : Type 0 where
    pub taken : p.taken ≡ q.taken
    pub no : p.no ≡ q.no
    pub left : R p.left q.left

  module _ (P : A → Type 0) (nought : A) (k : (l : L) (m : M) (v : A) → R l m → P v → Answers l m v) where
    pub alike : (vs : List A) → Elements P nought vs → (l : L) (m : M) → R l m → Alike (each f l vs) (each g m vs)
    alike [] s l m r =
        subst (λ (p : Many L). Alike p (each g m [])) (sym (each_none f l))
        (subst (λ (q : Many M). Alike (stopped 0 l) q) (sym (each_none g m)) (record { taken = refl; no = refl; left = r }))
    alike (v ∷ vs) s l m r =
        let a = k l m v r (s 0) in
        either (f l v).no
        (λ z.
        let i = alike vs (λ j. s (suc j)) (f l v).cells (g m v).cells a.cells in
        subst (λ (p : Many L). Alike p (each g m (v ∷ vs))) (sym (each_on f l v vs z))
        (subst (λ (q : Many M). Alike (one_more (each f (f l v).cells vs)) q) (sym (each_on g m v vs (sym a.no ∙ z)))
        (record { taken = ap suc i.taken; no = i.no; left = i.left })))
        (λ d.
        subst (λ (p : Many L). Alike p (each g m (v ∷ vs))) (sym (each-stop f l v vs d))
        (subst (λ (q : Many M). Alike (stopped (f l v).no (f l v).cells) q) (sym (each-stop g m v vs (λ z. d (a.no ∙ z))))
        (record { taken = refl; no = a.no; left = a.cells })))

-- where a refusal changes nothing, nothing taken is nothing changed
module _ {A L : Type 0} (f : L → A → Recording L) (P : A → Type 0) (nought : A) (l : L) (unchanged : (v : A) → P v → ((f l v).no ≡ 0 → ⊥) → (f l v).cells ≡ l) where
  pub none-taken : (vs : List A) → Elements P nought vs → (each f l vs).taken ≡ 0 → (each f l vs).left ≡ l
  none-taken [] s t = ap (λ (m : Many L). m.left) (each_none f l)
  none-taken (v ∷ vs) s t =
      either (f l v).no
      (λ z. absurd (let e = ap (λ (m : Many L). m.taken) (sym (each_on f l v vs z)) ∙ t in omega (arith, e)))
      (λ d. ap (λ (m : Many L). m.left) (each-stop f l v vs d) ∙ unchanged v (s 0) d)
