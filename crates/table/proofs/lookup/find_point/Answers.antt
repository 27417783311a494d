-- The line at the place that the search gives is the one, unless it is a `|3` line; else there is none.
use Rattle.std.specs.Prelude.{Some}
use mathlib.Core.Path.{sym, subst}
use native.Mathlib.Omega.{arith}
use Rattle.table.specs.Lookup.{PointFound}
use Rattle.table.specs.loops.Search.{writes_point}
use Rattle.table.specs.declared.lookup.Mapping.{Mapping}
use Rattle.table.proofs.Places.{holds-out}
use Rattle.table.proofs.Finding.{point-decided, point-undecided}
use Rattle.table.proofs.FoundLines.{point-line, point-nothing}
use Rattle.table.proofs.lookup.find_point.Goals as goal

pub returns-then-rec-at : goal.returns-then-rec-at
returns-then-rec-at c =
    let a = c.args in
    let q = c.point_place-at in
    point-nothing a.rec a.lines.codes.now a.lines.infos.now a.lines.order.now a.point q.result q.ensures.0
    (holds-out (writes_point a.point) a.rec.mappings a.lines.codes.now a.lines.infos.now q.result c.if-rec-at.true)

pub returns-then-lines-at-eq1 : goal.returns-then-lines-at-eq1
returns-then-lines-at-eq1 c =
    let a = c.args in
    let q = c.point_place-at in
    point-nothing a.rec a.lines.codes.now a.lines.infos.now a.lines.order.now a.point q.result q.ensures.0
    (point-undecided a.point a.rec.mappings a.lines.codes.now a.lines.infos.now q.result q.ensures.1 (omega (arith, c.if-rec-at.false)) c.if-lines-at-eq1.true)

pub returns : goal.returns
returns c =
    let a = c.args in
    let q = c.point_place-at in
    subst (λ (m : Mapping). PointFound a.rec a.lines.codes.now a.lines.infos.now a.lines.order.now a.point (Some m)) (sym c.of_stored.ensures)
    (point-line a.rec a.lines.codes.now a.lines.infos.now a.lines.order.now a.point q.result
    (point-decided a.point a.rec.mappings a.lines.codes.now a.lines.infos.now q.result q.ensures.1 (omega (arith, c.if-rec-at.false)) c.if-lines-at-eq1.false))
