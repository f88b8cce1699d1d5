use Rattle.std.proofs.Common.{sym, ap, ◌∙◌}
use Rattle.exponential.specs.Inner.{class_at}
use Rattle.exponential.proofs.adding.class_of.Goals as goal

pub returns-in-NoLevel : goal.returns-in-NoLevel
returns-in-NoLevel c = sym (ap class_at (sym c.get_bin-b.ensures ∙ c.in-NoLevel.is))

pub returns-in-NotFinite : goal.returns-in-NotFinite
returns-in-NotFinite c = sym (ap class_at (sym c.get_bin-b.ensures ∙ c.in-NotFinite.is))

pub returns-in-Zero : goal.returns-in-Zero
returns-in-Zero c = sym (ap class_at (sym c.get_bin-b.ensures ∙ c.in-Zero.is))

pub returns-in-At : goal.returns-in-At
returns-in-At c = sym (ap class_at (sym c.get_bin-b.ensures ∙ c.in-At.is))
