-- Invariant: the next quote from i on is the next one from `at` on.
use mathlib.Core.Path.{◌≡◌}
use lib.ListN.{drop}
use Rattle.table.specs.Text.{quote_end}
use Rattle.table.proofs.value.quote_end.Given as goal

abbrev pub invariant-loop-i : goal.invariant-loop-i
invariant-loop-i l = quote_end l.at (drop l.at l.s) ≡ quote_end l.i (drop l.i l.s)
