-- `reach` is true exactly of the rows from which every way leads on fewer times than there were turns.
use Prim.Native.Nat.{ℕ, ◌<◌}
use mathlib.Core.Path.{◌≡◌}
use mathlib.Core.Bool.{false}
use lib.ListN.{get_or}
use Rattle.table.specs.Limits.{limits}
use Rattle.table.specs.loops.LeadMarks.{marked_within}
use Rattle.table.proofs.states.marked_within.Given as goal

abbrev pub invariant-loop : goal.invariant-loop
invariant-loop l =
    (k : ℕ) → k < limits.rows → get_or l.reach k false ≡ marked_within l.rows l.marks l.counter k
