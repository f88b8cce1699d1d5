-- What a line comes to, by the calls that it makes: one law for each way. Assumes nothing.
use Prim.Native.Nat.{ℕ, ◌≤◌, ◌<◌}
use mathlib.Core.Path.{◌≡◌, refl, sym, ap, ◌∙◌}
use mathlib.Core.Bool.{Bool, true, false}
use mathlib.Core.List.{List, []}
use borrow.Author.Tests.{lt-ltb, le-ltb}
use Rattle.laws.specs.Pick.{pick}
use Rattle.laws.proofs.Bools.{pick_true, pick-false}
use Rattle.std.specs.Prelude.{Option, Some, None, Result, Ok, Err}
use Rattle.std.specs.Result.{result_ok}
use Rattle.std.proofs.lemmas.Option.{none-some}
use Rattle.refusals.specs.declared.Refusal.{Refusal}
use Rattle.lines.specs.Gathered.{Text, ◌behind◌}
use Rattle.directory.specs.View.{Stores}
use Rattle.directory.specs.declared.Directory.{Directory}
use Rattle.exponential_slots.specs.Cells.{Cells}
use Rattle.value_map.specs.Calls.{held}
use Rattle.listing.specs.Listed.{Output}
use Rattle.pooling.specs.Lists.{Source}
use Rattle.collecting.specs.Collected as Collecting
use Rattle.collecting.specs.Collected.{delta_collected}
use Rattle.exponential_collection.specs.Points.{exponential_lister}
use Rattle.printing.specs.Printed.{unread_line}
use Rattle.gauge_lines.specs.Lines.{time_of, call_of}
use Rattle.gauge_lines.specs.Followed.{outcome, After, after, turned_by, after_start, after_record}
use Rattle.gauge_lines.specs.declared.cells.Gauge.{Gauge}
use Rattle.gauge_lines.specs.declared.fields.Call.{Call}
use Rattle.gauge_lines.specs.declared.fields.Call.TheVariants as C
use Rattle.gauge_lines.proofs.Following.{answer-of}
use Rattle.sheet_writing.specs.Writing.{writing}
use Rattle.sheet.specs.Shown.{Wrote, wrote, wrote_by, records_of}
use Rattle.sheet.specs.Followed.{outside_of, done, taken_by, Went, went_on, opened, record_put, in_sheet, Followed, header_of, collected_with, listed_by}
use Rattle.sheet.specs.Followed.{collected_by, after_collect, silent_by, by_call, after_call, aside, by_records, after_step, numbered}
use Rattle.sheet.specs.declared.collect.Turn.{Turn}
use Rattle.sheet.specs.declared.state.State.{State}
use Rattle.sheet.specs.declared.state.Done.{Done}
use Rattle.sheet.specs.declared.state.Next.{Next}
use Rattle.sheet.proofs.Sheets.{text, gone_by}

-- what a line comes to, with a block of text and the stores
abbrev left : Done → List ℕ → Stores → Cells → Source → List ℕ → Followed
left r block s c x b = record { taken = r.taken; state = r.state; text = text r.text block; stores = s; cells = c; list = x; bytes = b }

-- ---- `c`

module _ (g : Gauge) (bs : List ℕ) (n : ℕ) (block : List ℕ) (s : Stores) (c : Cells) (x : Source) (b : List ℕ) where
  abbrev asked : Option ℕ → Followed
  asked y = collected_by g y (text n block) s c x b

  pub collect-refused : time_of bs ≡ None → (r : Option Next) → r ≡ None
      → left (done g n r) block s c x b ≡ after_collect g bs (text n block) s c x b
  unfolding after_collect
  collect-refused e r p = ap (λ (y : Option Next). left (done g n y) block s c x b) p ∙ sym (ap asked e)

  module _ (time : ℕ) (e : time_of bs ≡ Some time) (a : Result ℕ Refusal) (d : Directory) (s' : Stores) (o' : Output)
      (q : Collecting.gave a (held d s' c) o' ≡ delta_collected (exponential_lister g.settings.size g.settings.top)
      (g.settings.extremes, g.settings.sums) g.settings.limit (held g.dir s c) x.list) where
    abbrev listed : Source
    listed = record { list = o'; bounds = x.bounds }

    by-answer : (y : Result ℕ Refusal) → a ≡ y
        → listed_by g time (text n block) x.bounds b (Collecting.gave y (held d s' c) o') ≡ after_collect g bs (text n block) s c x b
    unfolding after_collect
    by-answer y p =
        ap (λ (z : Result ℕ Refusal). listed_by g time (text n block) x.bounds b (Collecting.gave z (held d s' c) o')) (sym p)
        ∙ ap (listed_by g time (text n block) x.bounds b) q ∙ sym (ap asked e)

    by-refusal : (y : Result ℕ Refusal) → a ≡ y → result_ok y ≡ None → left (done g n None) block s' c listed b ≡ after_collect g bs (text n block) s c x b
    by-refusal (Ok y) p h = absurd (none-some y (sym h))
    by-refusal (Err y) p h = by-answer (Err y) p

    pub collect-none : result_ok a ≡ None → (r : Option Next) → r ≡ None
        → left (done g n r) block s' c listed b ≡ after_collect g bs (text n block) s c x b
    collect-none h r p = ap (λ (y : Option Next). left (done g n y) block s' c listed b) p ∙ by-refusal a refl h

    pub collect-made : (many : ℕ) → result_ok a ≡ Some many → (k : Turn) → k ≡ record { gauge = turned_by g d time; header = header_of g time }
        → (m : ℕ) (block' b' : List ℕ) → wrote (text m block') b' ≡ wrote_by (writing k.header many listed b) (text n block) → (r : Next)
        → r ≡ record { state = outside_of k.gauge; text = m }
        → left (done g n (Some r)) block' s' c listed b' ≡ after_collect g bs (text n block) s c x b
    collect-made many y k f m block' b' w r p =
        ap (λ (z : Next). left (taken_by z) block' s' c listed b') p ∙ ap (λ (z : Wrote). collected_with k.gauge z s' c listed) w
        ∙ ap (λ (z : Turn). collected_with z.gauge (wrote_by (writing z.header many listed b) (text n block)) s' c listed) f
        ∙ by-answer (Ok many) (answer-of a many y)

-- ---- the gauge's lines

module _ (g : Gauge) (bs : List ℕ) (over : Bool) (n : ℕ) (block : List ℕ) (s : Stores) (c : Cells) (x : Source) (b : List ℕ) where
  made : (k : Call) → call_of bs g.running over ≡ k → by_call k g bs (text n block) s c x b ≡ after_call g bs over (text n block) s c x b
  unfolding after_call
  made k e = sym (ap (λ (y : Call). by_call y g bs (text n block) s c x b) e)

  pub line-none : call_of bs g.running over ≡ C.None → (r : Next) → r ≡ record { state = outside_of g; text = n }
      → left (done g n (Some r)) block s c x b ≡ after_call g bs over (text n block) s c x b
  line-none e r p = ap (λ (z : Next). left (taken_by z) block s c x b) p ∙ made C.None e

  pub line-unread : call_of bs g.running over ≡ C.Unread → left (done g n None) block s c x b ≡ after_call g bs over (text n block) s c x b
  line-unread e = made C.Unread e

  -- after a call that prints nothing, and answers k
  abbrev silent : Option Gauge → Done
  silent k = record { taken = (outcome g k).taken; state = outside_of (outcome g k).gauge; text = n }

  pub silent-none : (k : Option Gauge) (r : Option Next) → k ≡ None → r ≡ None → done g n r ≡ silent k
  silent-none k r p q = ap (done g n) q ∙ sym (ap silent p)

  pub silent-some : (k : Option Gauge) (h : Gauge) → k ≡ Some h → (r : Next) → r ≡ record { state = outside_of h; text = n } → done g n (Some r) ≡ silent k
  silent-some k h p r q = ap taken_by q ∙ sym (ap silent p)

  module _ (k : Option Gauge) (r : Option Next) (p : done g n r ≡ silent k) (s' : Stores) (c' : Cells) where
    pub line_record : call_of bs g.running over ≡ C.Record → after (outcome g k) s' c' ≡ after_record g bs s c
        → left (done g n r) block s' c' x b ≡ after_call g bs over (text n block) s c x b
    line_record e q =
        ap (λ (z : Done). left z block s' c' x b) p ∙ ap (λ (y : After). silent_by y (text n block) x b) q ∙ made C.Record e

    pub line-start : call_of bs g.running over ≡ C.Start → after (outcome g k) s' c' ≡ after_start g bs s c
        → left (done g n r) block s' c' x b ≡ after_call g bs over (text n block) s c x b
    line-start e q =
        ap (λ (z : Done). left z block s' c' x b) p ∙ ap (λ (y : After). silent_by y (text n block) x b) q ∙ made C.Start e

  pub line-collect : call_of bs g.running over ≡ C.Collect → (y : Followed) → y ≡ after_collect g bs (text n block) s c x b
      → y ≡ after_call g bs over (text n block) s c x b
  line-collect e y p = p ∙ made C.Collect e

-- ---- each line in its place

module _ (st : State) (bs : List ℕ) (over : Bool) (n : ℕ) (block : List ℕ) (s : Stores) (c : Cells) (x : Source) (b : List ℕ) where
  pub step-inside : 0 < st.left → (r : Done) (block' : List ℕ) (x' : Source) (b' : List ℕ)
      → (gone_by r block' x' ≡ in_sheet st bs over (text n block) x b) × (b' ≡ record_put st bs over b)
      → left r block' s c x' b' ≡ after_step st bs over (text n block) s c x b
  unfolding after_step
  step-inside h r block' x' b' q =
      (λ i. aside (q.0 i) s c (q.1 i)) ∙ sym (pick_true _ _ _ (lt-ltb 0 st.left h))

  module _ (h : st.left ≤ 0) where
    outside : (y : Option ℕ) → records_of bs ≡ y → by_records y st.gauge bs over (text n block) s c x b ≡ after_step st bs over (text n block) s c x b
    unfolding after_step
    outside y e =
        sym (pick-false _ _ _ (le-ltb 0 st.left h) ∙ ap (λ (z : Option ℕ). by_records z st.gauge bs over (text n block) s c x b) e)

    pub step-begins : (k : ℕ) → records_of bs ≡ Some k → (r : Done) (block' : List ℕ) (x' : Source)
        → gone_by r block' x' ≡ went_on (opened st.gauge k) (text n block) x b
        → left r block' s c x' b ≡ after_step st bs over (text n block) s c x b
    step-begins k e r block' x' q = ap (λ (w : Went). aside w s c b) q ∙ outside (Some k) e

    pub step-calls : records_of bs ≡ None → (y : Followed) → y ≡ after_call st.gauge bs over (text n block) s c x b
        → y ≡ after_step st bs over (text n block) s c x b
    step-calls e y q = q ∙ outside None e

-- ---- and its number

-- a line that left so many bytes of a block, and then `? N` or nothing behind them
pub line-numbered : (number : ℕ) (z : Done) (block : List ℕ) (s : Stores) (c : Cells) (x : Source) (b : List ℕ) (y : Followed)
    → left z block s c x b ≡ y → (m : ℕ) (block' : List ℕ)
    → text m block' ≡ pick z.taken [] (unread_line number) behind text z.text block
    → left (record { taken = z.taken; state = z.state; text = m }) block' s c x b ≡ numbered number y
line-numbered number z block s c x b y p m block' w =
    ap (λ (t : Text). record { taken = z.taken; state = z.state; text = t; stores = s; cells = c; list = x; bytes = b }) w
    ∙ ap (numbered number) p

module _ (number : ℕ) (g : Gauge) (n : ℕ) (block : List ℕ) (s : Stores) (c : Cells) (x : Source) (b : List ℕ) where
  nothing-said : (m : ℕ) → text m block ≡ pick true [] (unread_line number) behind text m block
  unfolding pick ◌behind◌
  nothing-said m = refl

  -- a line that was followed: nothing is said
  pub line-followed : (r : Option Next) (next : Next) → r ≡ Some next → (y : Followed) → left (done g n r) block s c x b ≡ y
      → left (done g n (Some next)) block s c x b ≡ numbered number y
  line-followed r next e y p =
      line-numbered number (done g n (Some next)) block s c x b y (ap (λ (z : Option Next). left (done g n z) block s c x b) (sym e) ∙ p)
      next.text block (nothing-said next.text)

  -- one that was not: `? N` behind what waits
  refused-said : (r : Option Next) → r ≡ None → (y : Followed) → left (done g n r) block s c x b ≡ y → (m : ℕ) (block' : List ℕ)
      → text m block' ≡ (unread_line number behind text n block)
      → left (record { taken = false; state = outside_of g; text = m }) block' s c x b ≡ numbered number y
  unfolding pick
  refused-said r e y p m block' w =
      line-numbered number (done g n None) block s c x b y (ap (λ (z : Option Next). left (done g n z) block s c x b) (sym e) ∙ p) m block' w

  pub line-refused : (r : Option Next) → r ≡ None → (y : Followed) → left (done g n r) block s c x b ≡ y → (m : ℕ) (block' : List ℕ)
      → text m block' ≡ (unread_line number behind text n block) → (k : State) → k ≡ outside_of g
      → left (record { taken = false; state = k; text = m }) block' s c x b ≡ numbered number y
  line-refused r e y p m block' w k q =
      ap (λ (z : State). left (record { taken = false; state = z; text = m }) block' s c x b) q ∙ refused-said r e y p m block' w
