-- Invariant: the cut from here on is the cut that is asked for. Measure: bytes left of the longest code.
use Prim.Native.Nat.{◌-◌, ◌≤◌}
use mathlib.Core.Path.{◌≡◌}
use lib.ListN.{drop}
use Rattle.table.specs.States.{step_at, cut_from}
use Rattle.table.proofs.states.cut_on.Given as goal

abbrev pub invariant-loop-at : goal.invariant-loop-at
invariant-loop-at l =
    (cut_from (step_at l.states) l.first (4 - l.at) l.at_row l.at (drop l.at l.s) ≡ cut_from (step_at l.states) l.first (4 - l.from) l.row l.from (drop l.from l.s)) × (l.at ≤ 4)

abbrev pub decreases-loop-at : goal.decreases-loop-at
decreases-loop-at l =
    4 - l.at
