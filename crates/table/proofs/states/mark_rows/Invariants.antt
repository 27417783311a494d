-- Invariant: all cells pass exactly if those from i on do; the marks are those of the cells before i.
use Prim.Native.Nat.{◌-◌, ◌*◌}
use mathlib.Core.Path.{◌≡◌}
use lib.ListN.{length, take, drop}
use Rattle.lists.specs.Tests.{all_of}
use Rattle.table.specs.Valid.{state_ok}
use Rattle.table.proofs.Marking.{Seen}
use Rattle.table.proofs.states.mark_rows.Given as goal

abbrev pub invariant-loop-i : goal.invariant-loop-i
invariant-loop-i l =
    (all_of (state_ok l.rows) (take (l.rows * 256 - l.i) (drop l.i l.states)) ≡ all_of (state_ok l.rows)
    (take (l.rows * 256) l.states)) × Seen l.marks l.states l.i × (length l.marks ≡ 256)
