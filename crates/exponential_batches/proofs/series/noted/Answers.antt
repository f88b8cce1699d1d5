-- `exponential_batches::series::noted` meets its contract. Assumes nothing.
use Rattle.exponential_batches.specs.Series.{series}
use Rattle.exponential_batches.proofs.Steps.{noted_law}
use Rattle.exponential_batches.proofs.series.noted.Goals as goal

pub returns : goal.returns
returns c =
    let a = c.args in
    noted_law a.size a.top (series a.head a.pos.now a.neg.now) a.v c.count_in-next.result c.lesser-least.result c.greater-greatest.result
    c.count_in-next.new.pos c.count_in-next.new.neg c.requires c.count_in-next.ensures c.lesser-least.ensures c.greater-greatest.ensures
