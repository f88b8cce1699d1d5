-- The two histogram kinds over any number as one kind of series. Assumes nothing.
use Rattle.std.specs.Prelude.{Bool, false, ◌&&◌, List, [], leb, length}
use Rattle.index.specs.Bins.{finest, lowest_bin}
use Rattle.points.specs.Agreement.{agrees}
use Rattle.points.specs.Explicit.{bounds_pass, buckets_agree}
use Rattle.points.specs.Counts.{Kind, exponential, explicit, size_passes, Settings, Counts, exponential_counts, explicit_counts, count_of, pos_of, neg_of}
use Rattle.points.specs.Number.{Number}
use Rattle.points.specs.Any.{Figures, figures_of, record_figures, summary_of, Handed, handed_out}
use Rattle.tally.specs.Kind as Tally

-- what configuring accepts: 1; "2: max_scale outside -10 to 10", the level being the scale + 10; 3
abbrev pub passes : Kind → Bool
passes (exponential size top) = size_passes size && leb top finest
passes (explicit bounds) = bounds_pass bounds

-- "An exponential series agrees when ..; explicit bounds pass number 3, and with bounds the counts total count". Counts of the other kind
-- do not, nor does what words out of shape are read as (`shapeless` of exponential_slots).
abbrev pub counts_hold : Kind → Counts → Bool
counts_hold (exponential size top) (exponential_counts p) = agrees size top (lowest_bin finest) p
counts_hold (exponential size top) (explicit_counts b p) = false
counts_hold (explicit bounds) (exponential_counts p) = false
counts_hold (explicit bounds) (explicit_counts b p) = buckets_agree bounds p

-- "held extremes are finite". Document 02, L4: 8 also of a "series that lacks one above count 0": a series holds two numbers, and lacks none.
-- L6: 16 is given where the sum that is held does not take the value; the tally knows it by the sum of the set's waiting values.
-- `point_of` is `handed` of the number, shut or not
abbrev pub histograms_of : (N : Number) → (Settings → List N.Value → Handed N) → Tally.Kind
histograms_of N point_of =
    record {
      Settings = Settings;
      valid = λ z. passes z.kind;
      Value = N.Value;
      Series = Figures N;
      Point = Handed N;
      finite = N.taken;
      fresh = λ z. figures_of N z [];
      add = record_figures N;
      agrees = λ z x. counts_hold z.kind x.counts && (N.finite x.summary.min && N.finite x.summary.max);
      total = λ x. count_of x.counts;
      allows = λ z x v. N.takes z.sums x.summary.sum v;
      point = handed_out N;
      pos = λ p. length (pos_of p.counts);
      neg = λ p. length (neg_of p.counts);
      point_of = point_of;
      allowed = λ z vs v. N.takes z.sums (summary_of N z.sums vs).sum v;
    }
