-- The line at the place, if it fits, is the one that is found; else it is the search.
use Rattle.std.specs.Prelude.{Some}
use mathlib.Core.Path.{sym, ◌∙◌, subst}
use Rattle.table.specs.Lookup.{PointFound}
use Rattle.table.specs.declared.lookup.Mapping.{Mapping}
use Rattle.table.proofs.FoundLines.{point-line}
use Rattle.table.proofs.lookup.find_point_near.Goals as goal

pub returns-then-writes_at : goal.returns-then-writes_at
returns-then-writes_at c =
    let a = c.args in
    let h = sym c.writes_at.ensures.answer ∙ c.if-writes_at.true in
    subst (λ (m : Mapping). PointFound a.rec a.lines.codes.now a.lines.infos.now a.lines.order.now a.point (Some m)) (sym c.of_stored.ensures)
    (point-line a.rec a.lines.codes.now a.lines.infos.now a.lines.order.now a.point a.at h)
