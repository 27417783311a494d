-- Invariant: the test of all stored mappings is that of those from k on behind the last one.
use Rattle.table.proofs.TestLoops.{lines_all, lines_from, any_line}
use Rattle.table.specs.Memory.{stored_list}
use Rattle.table.specs.Stored.{mk}
use Rattle.table.specs.loops.Backed.{backed_by}
use mathlib.Core.Path.{◌≡◌}
use Prim.Native.Nat.{◌≤◌}
use lib.ListN.{length, drop}
use Rattle.table.proofs.valid.all_backed.Given as goal

abbrev pub invariant-loop-k : goal.invariant-loop-k
invariant-loop-k l =
    (lines_all backed_by any_line (stored_list l.codes l.infos)
    ≡ lines_from backed_by any_line (mk l.c l.i) (stored_list (drop l.k l.codes) (drop l.k l.infos)))
    × (l.k ≤ length l.codes)
