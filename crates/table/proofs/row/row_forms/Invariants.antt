-- Invariant: all entries have the form exactly if those that are left have it; `later` and `over` say whether 14 or 15
-- is given for an entry before those.
use mathlib.Core.Path.{◌≡◌}
use mathlib.Core.Bool.{true}
use Rattle.lists.specs.Pick.{pick}
use Rattle.lists.specs.Tests.{any_of}
use Rattle.table.specs.Row.{entries_at, well_at, unbuilt_entry, over_entry}
use Rattle.table.specs.loops.Coded.{entries_left, well_left}
use Rattle.table.proofs.row.row_forms.Given as goal

abbrev pub invariant-loop-entry : goal.invariant-loop-entry
invariant-loop-entry l =
    (well_at l.s l.at ≡ well_left l.entry-iterator)
    × (any_of unbuilt_entry (entries_at l.s l.at) ≡ pick l.forms.later true (any_of unbuilt_entry (entries_left l.entry-iterator)))
    × (any_of over_entry (entries_at l.s l.at) ≡ pick l.forms.over true (any_of over_entry (entries_left l.entry-iterator)))
