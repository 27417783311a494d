use Rattle.table.proofs.StoredLaws.{writing, next-no}
use Rattle.table.proofs.EntryTests.{write-next-if}
use Rattle.table.specs.Stored.{mk}
use mathlib.Core.Path.{sym, ◌∙◌}
use Rattle.std.proofs.Common.{rules}
use Rattle.table.proofs.valid.write_next.Goals as goal

pub returns-then-not-point_less : goal.returns-then-not-point_less
returns-then-not-point_less c =
    let a = c.args in
    sym (next-no writing (mk a.c a.i) (mk a.d a.j)
    (sym c.point_less.ensures ∙ c.if-not-point_less.true))

pub returns-then-i-eq1 : goal.returns-then-i-eq1
returns-then-i-eq1 c =
    let a = c.args in
    rw (write-next-if (mk a.c a.i) (mk a.d a.j)
    (sym c.point_less.ensures ∙ c.if-not-point_less.false)) (search rules)

pub returns-else-i-eq1 : goal.returns-else-i-eq1
returns-else-i-eq1 c =
    let a = c.args in
    rw (write-next-if (mk a.c a.i) (mk a.d a.j)
    (sym c.point_less.ensures ∙ c.if-not-point_less.false)) (search rules)
