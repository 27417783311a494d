-- A line clashes where the gap says that one reads the new line's code.
use Rattle.table.proofs.Taken.{read-not-taken, read_taken-holds_at}
use Rattle.table.specs.Memory.{stored_list}
use Rattle.table.specs.Stored.{mk}
use mathlib.Core.Path.{sym, ◌∙◌}
use native.Mathlib.Omega.{arith}
use lib.ListN.{take}
use Rattle.table.proofs.store.read_taken.Goals as goal

pub returns-then-i-gt1 : goal.returns-then-i-gt1
returns-then-i-gt1 c =
    let a = c.args in
    sym (read-not-taken (mk a.c a.i) (stored_list (take a.n a.lines.codes.now) (take a.n a.lines.infos.now)) c.if-i-gt1.true)

pub returns : goal.returns
returns c =
    let a = c.args in
    let q = c.code_place in
    let first = q.ensures.0 c.requires.2 c.requires.0 c.requires.1 (omega (arith, c.requires.3)) in
    sym q.ensures.1.told ∙ sym (read_taken-holds_at (mk a.c a.i) a.n a.lines.codes.now a.lines.infos.now q.result.at c.if-i-gt1.false first)
