use mathlib.Core.Path.{sym, ap, ◌∙◌}
use Rattle.table.specs.Limits.{limits}
use Rattle.table.specs.Meaning.{Table, writer}
use Rattle.table.specs.Held.{memory_of}
use Rattle.table.proofs.LookupLaws.{point-writes, found-padded}
use Rattle.table.proofs.lent.Table.find_point_near.Goals as goal

pub returns-clause-writes : goal.returns-clause-writes
returns-clause-writes c =
    let l = c.self.inside.lent in
    let point = c.args.point in
    sym (point-writes limits l.rec (memory_of l) c.self.invariant.tested point c.find_point_near.result c.find_point_near.ensures)
    ∙ ap (λ (t : Table). writer point t.lines) c.self.view_is

pub returns-clause-padded : goal.returns-clause-padded
returns-clause-padded c =
    let l = c.self.inside.lent in
    found-padded l.rec (memory_of l) c.self.invariant.tested c.args.point c.find_point_near.result c.find_point_near.ensures
