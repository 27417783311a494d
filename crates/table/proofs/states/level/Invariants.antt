-- Invariant: `out` is false exactly of the rows that a mark before j leads to a row where `below` is false.
use mathlib.Core.Path.{◌≡◌}
use lib.ListN.{length}
use Rattle.table.specs.Limits.{limits}
use Rattle.table.proofs.Marking.{Levelled}
use Rattle.table.proofs.states.level.Given as goal

abbrev pub invariant-loop-j : goal.invariant-loop-j
invariant-loop-j l =
    Levelled l.marks l.below l.out l.j × (length l.out ≡ limits.rows)
