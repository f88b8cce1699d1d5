-- The gauge after a line, from what its call says and leaves. Assumes nothing.
use Prim.Native.Nat.{ℕ}
use mathlib.Core.Path.{◌≡◌, refl, sym, ap, ◌∙◌}
use mathlib.Core.Bool.{Bool, true, false}
use mathlib.Core.List.{List, [], ◌∷◌}
use mathlib.Core.Option.{none}
use lib.IntN.{ℤ}
use lib.ListN.{take, replicate}
use lib.Ieee.{Float, binary64, of_bits}
use Rattle.laws.specs.Pick.{pick}
use Rattle.std.specs.Prelude.{Option, Some, None, Result, Ok, Err}
use Rattle.std.specs.Result.{result_ok}
use Rattle.std.proofs.lemmas.Option.{none-some, same_Some}
use Rattle.lines.specs.Gathered.{Text, ◌behind◌}
use Rattle.sets.specs.Sorted.{given}
use Rattle.directory.specs.View.{Stores}
use Rattle.directory.specs.declared.Directory.{Directory}
use Rattle.bindings.specs.Calls as Bindings
use Rattle.bindings.specs.declared.Reply.{Reply}
use Rattle.exponential_slots.specs.Cells.{Cells}
use Rattle.value_map.specs.Calls.{held, gave, measured}
use Rattle.value_map.specs.Exponential.{exponential_store}
use Rattle.listing.specs.Listed.{Output}
use Rattle.collecting.specs.Configured.{configuring}
use Rattle.refusals.specs.Refusals.{said}
use Rattle.refusals.specs.declared.Refusal.{Refusal}
use Rattle.collecting.specs.Collected as Collecting
use Rattle.collecting.specs.Collected.{delta_collected}
use Rattle.exponential_collection.specs.Configured.{configured}
use Rattle.exponential_collection.specs.declared.Setup.{Setup}
use Rattle.exponential_collection.specs.Points.{exponential_lister}
use Rattle.clock.specs.Starts.{turned}
use Rattle.printing.specs.Printed.{collection_lines, unread_line}
use Rattle.printing.specs.declared.Form.{Form}
use Rattle.gauge_lines.specs.declared.cells.Gauge.{Gauge}
use Rattle.gauge_lines.specs.declared.collect.Collected.{Collected}
use Rattle.gauge_lines.specs.declared.collect.Next.{Next}
use Rattle.gauge_lines.specs.declared.collect.Turn.{Turn}
use Rattle.gauge_lines.specs.declared.fields.Wanted.{Wanted}
use Rattle.gauge_lines.specs.declared.fields.Board.{Board}
use Rattle.gauge_lines.specs.declared.fields.Call.{Call}
use Rattle.gauge_lines.specs.declared.fields.Call.TheVariants as C
use Rattle.gauge_lines.specs.Lines.{settings_of, board_of, attributes_in, time_of, call_of}
use Rattle.gauge_lines.specs.Followed.{Outcome, outcome, After, after, begun_by, configured_by, started_by, after_start}
use Rattle.gauge_lines.specs.Followed.{answered_by, measured_by, recorded_by, after_record}
use Rattle.gauge_lines.specs.Followed.{Followed, collected, turned_by, no_bounds, listed_by, collected_by, after_collect}
use Rattle.gauge_lines.specs.Followed.{silent_by, by_call, after_call, numbered}

-- ---- `e` and `r`

-- an answer of which `ok` leaves a value
pub answer-of : {A : Type 0} (a : Result A Refusal) (x : A) → result_ok a ≡ Some x → a ≡ Ok x
answer-of (Ok y) x h = ap Ok (same_Some y x h)
answer-of (Err e) x h = absurd (none-some x h)

module _ (g : Gauge) (bs : List ℕ) (s : Stores) (c : Cells) (r : Option Gauge) where
  pub start-refused : settings_of bs ≡ None → r ≡ None → after (outcome g r) s c ≡ after_start g bs s c
  unfolding after_start
  start-refused e p = ap (λ (x : Option Gauge). after (outcome g x) s c) p ∙ sym (ap (λ (w : Option Wanted). started_by g w s c) e)

  pub start-made : (w : Wanted) → settings_of bs ≡ Some w → (z : ℤ) → z ≡ w.scale → (k : Result Setup Refusal) (s' : Stores)
      → configuring (said k) s' ≡ configured w.size z true true w.limit none s c → outcome g r ≡ begun_by g w.start (said k)
      → after (outcome g r) s' c ≡ after_start g bs s c
  unfolding after_start
  start-made w e z y k s' q p =
      ap (λ (x : Outcome). after x s' c) p
      ∙ ap (configured_by g w.start c) (q ∙ ap (λ (x : ℤ). configured w.size x true true w.limit none s c) y)
      ∙ sym (ap (λ (x : Option Wanted). started_by g x s c) e)

  pub record-refused : board_of bs ≡ None → r ≡ None → after (outcome g r) s c ≡ after_record g bs s c
  unfolding after_record
  record-refused e p =
      ap (λ (x : Option Gauge). after (outcome g x) s c) p
      ∙ sym (ap (λ (b : Option Board). recorded_by g b (attributes_in bs (replicate 9 (0 ∷ 0 ∷ []))) s c) e)

  pub record-made : (b : Board) → board_of bs ≡ Some b → (v : Float) → v ≡ of_bits binary64 b.bits
      → (attrs : List (List ℕ)) → attrs ≡ take b.many (attributes_in bs (replicate 9 (0 ∷ 0 ∷ []))) → (k : Reply Refusal) (s' : Stores) (c' : Cells)
      → gave k s' c'
      ≡ measured (exponential_store g.settings.size g.settings.top) g.settings.limit none (held g.dir s c) v (given attrs)
      → outcome g r ≡ answered_by g (Bindings.said k.answer) k.dir → after (outcome g r) s' c' ≡ after_record g bs s c
  unfolding after_record
  record-made b e v y attrs t k s' c' q p =
      ap (λ (x : Outcome). after x s' c') p
      ∙ ap (measured_by g) (q
      ∙ (λ i. measured (exponential_store g.settings.size g.settings.top) g.settings.limit none (held g.dir s c) (y i)
      (given (t i))))
      ∙ sym (ap (λ (x : Option Board). recorded_by g x (attributes_in bs (replicate 9 (0 ∷ 0 ∷ []))) s c) e)

-- ---- `c`

-- a block of text of which n bytes wait, and what a line comes to with it and the stores
abbrev text : ℕ → List ℕ → Text
text n block = record { count = n; block = block }

abbrev left : Collected → List ℕ → Stores → Cells → Output → Followed
left r block s c o = record { taken = r.taken; gauge = r.gauge; text = text r.text block; stores = s; cells = c; out = o }

module _ (form : Form) (g : Gauge) (bs : List ℕ) (n : ℕ) (block : List ℕ) (s : Stores) (c : Cells) (o : Output) where
  abbrev asked : Option ℕ → Followed
  asked x = collected_by form g x (text n block) s c o

  pub collect-refused : time_of bs ≡ None → (r : Option Next) → r ≡ None
      → left (collected g n r) block s c o ≡ after_collect form g bs (text n block) s c o
  unfolding after_collect
  collect-refused e r p = ap (λ (x : Option Next). left (collected g n x) block s c o) p ∙ sym (ap asked e)

  module _ (time : ℕ) (e : time_of bs ≡ Some time) (a : Result ℕ Refusal) (d : Directory) (s' : Stores) (o' : Output)
      (q : Collecting.gave a (held d s' c) o' ≡ delta_collected (exponential_lister g.settings.size g.settings.top)
      (g.settings.extremes, g.settings.sums) g.settings.limit (held g.dir s c) o) where
    by-answer : (x : Result ℕ Refusal) → a ≡ x
        → listed_by form g time (text n block) (Collecting.gave x (held d s' c) o') ≡ after_collect form g bs (text n block) s c o
    unfolding after_collect
    by-answer x y =
        ap (λ (z : Result ℕ Refusal). listed_by form g time (text n block) (Collecting.gave z (held d s' c) o')) (sym y)
        ∙ ap (listed_by form g time (text n block)) q ∙ sym (ap asked e)

    by-refusal : (x : Result ℕ Refusal) → a ≡ x → result_ok x ≡ None → left (collected g n None) block s' c o' ≡ after_collect form g bs (text n block) s c o
    by-refusal (Ok x) y h = absurd (none-some x (sym h))
    by-refusal (Err x) y h = by-answer (Err x) y

    pub collect-none : result_ok a ≡ None → (r : Option Next) → r ≡ None
        → left (collected g n r) block s' c o' ≡ after_collect form g bs (text n block) s c o
    collect-none h r p = ap (λ (x : Option Next). left (collected g n x) block s' c o') p ∙ by-refusal a refl h

    pub collect-made : (many : ℕ) → result_ok a ≡ Some many → (k : Turn)
        → k ≡ record { gauge = turned_by g d time; start = (turned g.clock 0 time).start } → (m : ℕ) (block' : List ℕ)
        → text m block' ≡ collection_lines form k.start time many o' no_bounds behind text n block
        → left (record { taken = true; gauge = k.gauge; text = m }) block' s' c o' ≡ after_collect form g bs (text n block) s c o
    collect-made many y k p m block' w =
        ap (λ (x : Text). shown k x) w ∙ ap (λ (x : Turn). shown x (collection_lines form x.start time many o' no_bounds behind text n block)) p
        ∙ by-answer (Ok many) (answer-of a many y)
      where
        shown : Turn → Text → Followed
        shown x u = record { taken = true; gauge = x.gauge; text = u; stores = s'; cells = c; out = o' }

-- ---- any line

module _ (form : Form) (g : Gauge) (bs : List ℕ) (over : Bool) (n : ℕ) (block : List ℕ) (s : Stores) (c : Cells) (o : Output) where
  made : (k : Call) → call_of bs g.running over ≡ k → by_call form k g bs (text n block) s c o ≡ after_call form g bs over (text n block) s c o
  unfolding after_call
  made k e = sym (ap (λ (x : Call). by_call form x g bs (text n block) s c o) e)

  pub line-none : call_of bs g.running over ≡ C.None
      → left (record { taken = true; gauge = g; text = n }) block s c o ≡ after_call form g bs over (text n block) s c o
  line-none e = made C.None e

  pub line-unread : call_of bs g.running over ≡ C.Unread → left (collected g n None) block s c o ≡ after_call form g bs over (text n block) s c o
  line-unread e = made C.Unread e

  -- after a call that prints nothing, and answers k
  abbrev silent : Option Gauge → Collected
  silent k = record { taken = (outcome g k).taken; gauge = (outcome g k).gauge; text = n }

  pub silent-none : (k : Option Gauge) (r : Option Next) → k ≡ None → r ≡ None → collected g n r ≡ silent k
  silent-none k r p q = ap (collected g n) q ∙ sym (ap silent p)

  pub silent-some : (k : Option Gauge) (h : Gauge) → k ≡ Some h → collected g n (Some (record { gauge = h; text = n })) ≡ silent k
  silent-some k h p = sym (ap silent p)

  module _ (k : Option Gauge) (r : Option Next) (p : collected g n r ≡ silent k) (s' : Stores) (c' : Cells) where
    pub line_record : call_of bs g.running over ≡ C.Record → after (outcome g k) s' c' ≡ after_record g bs s c
        → left (collected g n r) block s' c' o ≡ after_call form g bs over (text n block) s c o
    line_record e q =
        ap (λ (x : Collected). left x block s' c' o) p ∙ ap (λ (x : After). silent_by x (text n block) o) q ∙ made C.Record e

    pub line-start : call_of bs g.running over ≡ C.Start → after (outcome g k) s' c' ≡ after_start g bs s c
        → left (collected g n r) block s' c' o ≡ after_call form g bs over (text n block) s c o
    line-start e q = ap (λ (x : Collected). left x block s' c' o) p ∙ ap (λ (x : After). silent_by x (text n block) o) q ∙ made C.Start e

  pub line-collect : call_of bs g.running over ≡ C.Collect → (x : Followed) → x ≡ after_collect form g bs (text n block) s c o
      → x ≡ after_call form g bs over (text n block) s c o
  line-collect e x p = p ∙ made C.Collect e

-- ---- and its number

-- a call that left m bytes of a block, and then `? N` or nothing behind them
pub line-numbered : (number : ℕ) (x : Collected) (block : List ℕ) (s : Stores) (c : Cells) (o : Output) (y : Followed)
    → left x block s c o ≡ y → (m : ℕ) (block' : List ℕ)
    → text m block' ≡ pick x.taken [] (unread_line number) behind text x.text block
    → left (record { taken = x.taken; gauge = x.gauge; text = m }) block' s c o ≡ numbered number y
line-numbered number x block s c o y p m block' w =
    ap (λ (t : Text). record { taken = x.taken; gauge = x.gauge; text = t; stores = s; cells = c; out = o }) w ∙ ap (numbered number) p

module _ (number : ℕ) (g : Gauge) (n : ℕ) (block : List ℕ) (s : Stores) (c : Cells) (o : Output) where
  nothing-said : (m : ℕ) → text m block ≡ pick true [] (unread_line number) behind text m block
  unfolding pick ◌behind◌
  nothing-said m = refl

  -- a line that was followed: nothing is said
  pub line-followed : (r : Option Next) (next : Next) → r ≡ Some next → (y : Followed) → left (collected g n r) block s c o ≡ y
      → left (collected g n (Some next)) block s c o ≡ numbered number y
  line-followed r next e y p =
      line-numbered number (collected g n (Some next)) block s c o y (ap (λ (x : Option Next). left (collected g n x) block s c o) (sym e) ∙ p)
      next.text block (nothing-said next.text)

  -- one that was not: `? N` behind what waits
  pub line-refused : (r : Option Next) → r ≡ None → (y : Followed) → left (collected g n r) block s c o ≡ y → (m : ℕ) (block' : List ℕ)
      → text m block' ≡ (unread_line number behind text n block)
      → left (record { taken = false; gauge = g; text = m }) block' s c o ≡ numbered number y
  unfolding pick
  line-refused r e y p m block' w =
      line-numbered number (collected g n None) block s c o y (ap (λ (x : Option Next). left (collected g n x) block s c o) (sym e) ∙ p) m block' w
