-- Invariant: the content ends where it ends from i on, with `quoted` for being inside quotes there.
--
use mathlib.Core.Path.{◌≡◌}
use mathlib.Core.Bool.{false}
use lib.ListN.{drop}
use Rattle.table.specs.Text.{content_end}
use Rattle.table.proofs.header.content_end.Given as goal

abbrev pub invariant-loop-i : goal.invariant-loop-i
invariant-loop-i l = content_end false l.at (drop l.at l.s) ≡ content_end l.quoted l.i (drop l.i l.s)
