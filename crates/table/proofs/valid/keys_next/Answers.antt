-- A lower key decides alone (key-next); else it is write_next.
use Rattle.table.proofs.EntryTests.{key-next}
use Rattle.table.specs.Stored.{mk}
use native.Mathlib.Omega.{arith}
use mathlib.Core.Path.{sym, ◌∙◌}
use borrow.Author.Tests.{lt-ltb}
use Rattle.table.proofs.valid.keys_next.Goals as goal

pub returns-then-key-next : goal.returns-then-key-next
returns-then-key-next c =
    let a = c.args in lt-ltb a.key a.next c.if-key-next.true ∙ sym (key-next (mk a.c a.i) (mk a.d a.j) (omega arith))
