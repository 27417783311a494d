-- Invariant: the run from here, after what is read and written, is the whole run. Measure: the input left.
use Prim.Native.Nat.{◌-◌}
use lib.ListN.{length}
use Rattle.convert.proofs.Runs.{Going}
use Rattle.convert.proofs.way.run_by.Given as goal

abbrev pub invariant-loop-at : goal.invariant-loop-at
invariant-loop-at g l =
    Going (g.W.Conversion.step l.way) 0 l.input l.initial.out l.out 0 l.at l.w

abbrev pub decreases-loop-at : goal.decreases-loop-at
decreases-loop-at g l =
    length l.input - l.at
