-- Invariant: the blanks from `at` on end where those from i on do. Measure: bytes left.
use mathlib.Core.Path.{◌≡◌}
use Prim.Native.Nat.{◌-◌, ◌≤◌}
use lib.ListN.{length, drop}
use Rattle.table.specs.Text.{skip_of, skip_at}
use Rattle.table.proofs.text.skip.Given as goal

abbrev pub invariant-loop-i : goal.invariant-loop-i
invariant-loop-i l = (skip_at l.s l.at ≡ skip_of l.i (drop l.i l.s)) × (l.at ≤ l.i)

abbrev pub decreases-loop-i : goal.decreases-loop-i
decreases-loop-i l = length l.s - l.i
