-- Invariant: the number from `at` on is the digits up to here, of the value so far, then the digits from here on.
use mathlib.Core.Path.{◌≡◌}
use Prim.Native.Nat.{◌+◌, ◌-◌, ◌^◌, ◌<◌, ◌≤◌}
use lib.ListN.{drop}
use Rattle.table.specs.Text.{point_digits}
use Rattle.table.proofs.text.hex.Given as goal

abbrev pub invariant-loop-i : goal.invariant-loop-i
invariant-loop-i l =
    (point_digits 0 0 l.at (drop l.at l.s) ≡ point_digits (l.i - l.at) l.value l.i (drop l.i l.s)) × (l.i ≤ l.at + 6) × (l.value < 16 ^ (l.i - l.at))
