use Rattle.lists.proofs.Laws.{tests}
use Rattle.table.specs.Header.{name_in}
use Rattle.table.proofs.value.name_value.Goals as goal

pub returns-in_err-a : goal.returns-in_err-a
unfolding name_in
returns-in_err-a c = rw (c.from_residual.ensures, ← c.find_quoted.ensures.0, c.in_err-a.was)

pub returns-then-a-e : goal.returns-then-a-e
unfolding name_in
returns-then-a-e c = search (tests, ← c.find_quoted.ensures.0, c.in_ok-a.was)

pub returns-else-a-e : goal.returns-else-a-e
unfolding name_in
returns-else-a-e c = search (tests, ← c.find_quoted.ensures.0, c.in_ok-a.was)
