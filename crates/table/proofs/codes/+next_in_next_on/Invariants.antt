-- The two call each other; the measure is twice the bytes to come, and one more in next_on. Invariant of the loop in
-- next_in: the first code after the position is the first one whose first byte is b or more.
use Prim.Native.Nat.{◌+◌, ◌-◌}
use mathlib.Core.Path.{◌≡◌}
use Rattle.table.specs.loops.Marks.{codes_led, Starts}
use Rattle.table.specs.Codes.{scan, first_code, bytes_of}
use Rattle.lists.specs.Strings.{after}
use Rattle.table.specs.States.{step_at}
use Rattle.table.proofs.codes.+next_in_next_on.Given as goal

abbrev pub decreases-next_in : goal.decreases-next_in
decreases-next_in l =
    l.left + l.left

abbrev pub invariant-next_in-loop-b : goal.invariant-next_in-loop-b
invariant-next_in-loop-b l =
    Starts l.b (bytes_of l.at) ×
    (first_code (after (bytes_of l.initial.at) (scan (codes_led l.marks (step_at l.states) (l.left - 1))
    (step_at l.states) l.row 256 0)) ≡ first_code
    (after (bytes_of l.at) (scan (codes_led l.marks (step_at l.states) (l.left - 1)) (step_at l.states) l.row (256 - l.b) l.b)))

abbrev pub decreases-next_on : goal.decreases-next_on
decreases-next_on l =
    l.left + l.left + 1
