-- The marks of the first i pairs of row and bytes to come, by bytes to come first, are those of the definition.
use Prim.Native.Nat.{◌*◌}
use mathlib.Core.Path.{◌≡◌}
use lib.ListN.{length}
use Rattle.table.specs.Limits.{limits}
use Rattle.table.specs.States.{longest, step_at}
use Rattle.table.proofs.Marks.{MarkedSoFar}
use Rattle.table.proofs.codes.mark_rows.Given as goal

abbrev pub invariant-loop-i : goal.invariant-loop-i
invariant-loop-i l =
    (length l.marks ≡ limits.rows * longest) × MarkedSoFar (step_at l.states) l.marks l.i
