-- One byte and two are packed straight. Invariant: `v` is the bytes from `i` on, packed. Measure: the bytes left.
use Prim.Native.Nat.{◌<◌, ◌≤◌}
use mathlib.Core.Path.{◌≡◌}
use lib.ListN.{drop, take}
use Rattle.table.specs.Codes.{packed}
use Rattle.convert.proofs.pack.Given as goal

abbrev pub invariant-loop-i : goal.invariant-loop-i
invariant-loop-i l =
    (l.v ≡ packed (drop l.i (take l.n l.s))) × (l.i ≤ l.n) × (l.v < 4294967296)

abbrev pub decreases-loop-i : goal.decreases-loop-i
decreases-loop-i l =
    l.i
