-- Invariant: the run of key bytes from i on ends where the one from `at` on ends.
use mathlib.Core.Path.{◌≡◌}
use lib.ListN.{drop}
use Rattle.table.specs.Header.{key_end}
use Rattle.table.proofs.header.key_end.Given as goal

abbrev pub invariant-loop-i : goal.invariant-loop-i
invariant-loop-i l = key_end l.at (drop l.at l.s) ≡ key_end l.i (drop l.i l.s)
