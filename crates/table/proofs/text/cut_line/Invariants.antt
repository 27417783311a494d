-- Invariant: the first line is the bytes from `at` on to here and the first line of the rest; the lines behind it are
-- those of the rest.
use mathlib.Core.Path.{◌≡◌}
use mathlib.Core.List.{◌++◌}
use Prim.Native.Nat.{◌-◌}
use lib.ListN.{drop, take}
use Rattle.table.specs.loops.Coded.{first_line, rest_lines}
use Rattle.table.proofs.text.cut_line.Given as goal

abbrev pub invariant-loop-stop : goal.invariant-loop-stop
invariant-loop-stop l =
    (first_line (drop l.at l.text) ≡ take (l.stop - l.at) (drop l.at l.text) ++ first_line (drop l.stop l.text)) ×
    (rest_lines (drop l.at l.text) ≡ rest_lines (drop l.stop l.text))
