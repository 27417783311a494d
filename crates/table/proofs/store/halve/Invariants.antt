-- Invariant: the place that parts the keys is in the window, and the gap is that of its last line. Measure: the looks left.
use Rattle.table.proofs.Halving.{LooksLeft, Window}
use Rattle.table.specs.Looks.{looks_for}
use Rattle.table.specs.loops.Search.{Tells, Parts}
use Prim.Native.Nat.{ℕ, ◌+◌, ◌/◌, ◌≤◌}
use Rattle.table.proofs.store.halve.Given as goal

abbrev pub invariant-loop-size : goal.invariant-loop-size
invariant-loop-size g l =
    LooksLeft l.n l.size × (l.spot.at + l.size ≤ l.n + 1)
    × ((keys : ℕ → ℕ) → Tells l.n (λ k r. goal.F-post g l.key k r) keys → Window keys l.sought l.n (Parts keys l.sought l.n) l.spot.at l.size l.spot.gap)

abbrev pub decreases-loop-size : goal.decreases-loop-size
decreases-loop-size g l =
    looks_for (l.size / 2)
