-- A lower code decides alone; else the codes are the same, and the test is by the second numbers.
use Rattle.table.proofs.StoredLaws.{reading, next-no}
use Rattle.table.proofs.EntryTests.{read-next-less, read-next-same}
use Rattle.table.specs.Stored.{mk}
use Rattle.std.proofs.Common.{rules}
use native.Mathlib.Omega.{arith}
use mathlib.Core.Path.{sym, ◌∙◌}
use Rattle.table.proofs.valid.read_next.Goals as goal

pub returns-then-c-d : goal.returns-then-c-d
returns-then-c-d c =
    let a = c.args in sym (read-next-less (mk a.c a.i) (mk a.d a.j) (omega arith))

pub returns-then-not-stored_less : goal.returns-then-not-stored_less
returns-then-not-stored_less c =
    let a = c.args in
    sym (next-no reading (mk a.c a.i) (mk a.d a.j) (sym c.stored_less.ensures ∙ c.if-not-stored_less.true))

pub returns-then-i-gt1 : goal.returns-then-i-gt1
returns-then-i-gt1 c =
    let a = c.args in
    rw (read-next-same (mk a.c a.i) (mk a.d a.j) (omega arith)
    (sym c.stored_less.ensures ∙ c.if-not-stored_less.false)) (search rules)

pub returns-else-i-gt1 : goal.returns-else-i-gt1
returns-else-i-gt1 c =
    let a = c.args in
    rw (read-next-same (mk a.c a.i) (mk a.d a.j) (omega arith)
    (sym c.stored_less.ensures ∙ c.if-not-stored_less.false)) (search rules)
