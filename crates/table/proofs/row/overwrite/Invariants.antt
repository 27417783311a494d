-- Invariant: writing the entries that are left into the row as it is now gives what writing all of them gives.
use mathlib.Core.Path.{◌≡◌}
use Rattle.table.specs.Cells.{cell_number}
use Rattle.table.specs.Row.{entries_at, meaning, overwritten}
use Rattle.table.specs.loops.Coded.{entries_left}
use Rattle.table.proofs.row.overwrite.Given as goal

abbrev pub invariant-loop-entry : goal.invariant-loop-entry
invariant-loop-entry l =
    overwritten (λ e. cell_number (meaning e)) (entries_at l.s l.at) l.initial.row
    ≡ overwritten (λ e. cell_number (meaning e)) (entries_left l.entry-iterator) l.row
