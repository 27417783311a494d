-- No byte below b ends a code or leads on to a marked row.
use Rattle.table.specs.loops.Marks.{is_marked}
use Rattle.table.specs.States.{step_at}
use Rattle.table.proofs.Marks.{Dead}
use Rattle.table.proofs.codes.is_productive.Given as goal

abbrev pub invariant-loop-b : goal.invariant-loop-b
invariant-loop-b l =
    Dead (step_at l.states) (is_marked l.marks l.left) l.row l.b
