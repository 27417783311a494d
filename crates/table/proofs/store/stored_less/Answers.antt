use Rattle.table.proofs.EntryTests.{less-mk}
use Rattle.table.proofs.store.stored_less.Goals as goal
use Rattle.std.proofs.Common.{rules}

pub returns-then-c-d : goal.returns-then-c-d
returns-then-c-d c =
    rw less-mk (search rules)

pub returns-then-c-d-2 : goal.returns-then-c-d-2
returns-then-c-d-2 c =
    rw less-mk (search rules)

pub returns-else-c-d-2 : goal.returns-else-c-d-2
returns-else-c-d-2 c =
    rw less-mk (search rules)
