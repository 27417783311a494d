-- Invariant: the indices before k are renumbered, the others as they were.
use Rattle.lists.proofs.Place.{bumped}
use lib.ListN.{length}
use Prim.Native.Nat.{◌≤◌}
use mathlib.Core.Path.{◌≡◌}
use Rattle.table.proofs.store.renumber.Given as goal

abbrev pub invariant-loop-k : goal.invariant-loop-k
invariant-loop-k l =
    (l.order ≡ bumped l.at l.k l.initial.order) × (l.k ≤ l.n) × (length l.order ≡ length l.initial.order)
