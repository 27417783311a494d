-- Invariant: the test of all stored mappings is that of those from k on behind the last one.
use Rattle.table.proofs.TestLoops.{lines_all, lines_from}
use Rattle.table.specs.Valid.{line_ok}
use Rattle.table.specs.Memory.{stored_list}
use Rattle.table.specs.States.{step_at}
use Rattle.table.specs.Stored.{mk}
use Rattle.table.specs.loops.Backed.{line_next}
use mathlib.Core.Path.{◌≡◌}
use Prim.Native.Nat.{◌≤◌}
use lib.ListN.{length, drop}
use Rattle.table.proofs.valid.lines_ok.Given as goal

abbrev pub invariant-loop-k : goal.invariant-loop-k
invariant-loop-k l =
    (lines_all line_next (line_ok (step_at l.steps) l.rec) (stored_list l.codes l.infos)
    ≡ lines_from line_next (line_ok (step_at l.steps) l.rec) (mk l.c l.i) (stored_list (drop l.k l.codes) (drop l.k l.infos)))
    × (l.k ≤ length l.codes)
