use Rattle.table.proofs.EntryTests.{point_less-mk}
use Rattle.table.proofs.store.point_less.Goals as goal
use Rattle.std.proofs.Common.{rules}

pub returns-then-p-q : goal.returns-then-p-q
returns-then-p-q c =
    rw (point_less-mk, ← c.order_key-p.ensures, ← c.order_key-q.ensures) (search rules)

pub returns-then-p-q-2 : goal.returns-then-p-q-2
returns-then-p-q-2 c =
    rw (point_less-mk, ← c.order_key-p.ensures, ← c.order_key-q.ensures) (search rules)

pub returns-else-p-q-2 : goal.returns-else-p-q-2
returns-else-p-q-2 c =
    rw (point_less-mk, ← c.order_key-p.ensures, ← c.order_key-q.ensures) (search rules)
