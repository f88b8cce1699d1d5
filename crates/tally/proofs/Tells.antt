-- What is told of every run of faithful code, of any kind that pays what it owes. Assumes nothing.
use Rattle.tally.specs.Kind.{Kind}
use Rattle.tally.specs.Map.{Config}
use Rattle.tally.specs.Demand.{Code, left}
use Rattle.tally.proofs.Faithful.{Faithful}
use Rattle.tally.specs.Runs.{Tells}
use Rattle.tally.proofs.Lawful.{Lawful}
use Rattle.tally.proofs.Demand.{steady, cumulative-told}
use Rattle.tally.proofs.Sound.{Steady, never-damaged}
use Rattle.tally.proofs.Handles.{keeps-naming}

pub tells : (K : Kind) → Lawful K → Steady K → (c : Config K) (C : Code K) (F : Faithful K c C) → Tells K c C F.view
tells K L S c C F =
    record {
      quietly = never-damaged K S c C F;
      own = cumulative-told K L c C F;
      naming = λ h s xs ys n. let k = steady K c C F xs in keeps-naming K c C F h s ys (left K C C.first xs) k.0 k.1 n;
    }
