-- A line clashes where the place that the search gives has one for the new line's code point.
use Rattle.table.specs.Limits.{limits}
use Rattle.table.proofs.Taken.{write-not-taken, write_taken-holds_at}
use Rattle.table.proofs.Sorted.{form-store}
use Rattle.table.specs.Memory.{stored_list}
use Rattle.table.specs.Stored.{mk}
use mathlib.Core.Path.{sym, ◌∙◌}
use lib.ListN.{take}
use Rattle.table.proofs.store.write_taken.Goals as goal

pub returns-then-i-eq1 : goal.returns-then-i-eq1
returns-then-i-eq1 c =
    let a = c.args in
    sym (write-not-taken (mk a.c a.i) (stored_list (take a.n a.lines.codes.now) (take a.n a.lines.infos.now)) c.if-i-eq1.true)

pub returns : goal.returns
returns c =
    let a = c.args in
    let q = c.point_place-at in
    let first = q.ensures.0 limits.mappings (form-store limits.mappings a.n a.lines.codes.now a.lines.infos.now a.lines.order.now c.requires) in
    c.writes_at.ensures.answer ∙ sym (write_taken-holds_at (mk a.c a.i) a.n a.lines.codes.now a.lines.infos.now q.result c.if-i-eq1.false first)
