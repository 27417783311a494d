use native.Mathlib.Omega.{arith}
use mathlib.Core.Path.{sym, ap, ◌∙◌}
use Rattle.table.specs.Limits.{limits}
use Rattle.table.specs.Meaning.{Table}
use Rattle.table.specs.Held.{memory_of}
use Rattle.table.proofs.TableParts.{table-subchar1, subchar1-byte, subchar1-none, subchar1-some}
use Rattle.table.proofs.lent.Table.subchar1.Goals as goal

pub returns-then-given-eq0 : goal.returns-then-given-eq0
returns-then-given-eq0 c =
    let l = c.self.inside.lent in
    sym (table-subchar1 l.rec (memory_of l) ∙ subchar1-none l.rec.subchar1 c.if-given-eq0.true)
    ∙ ap (λ (t : Table). t.subchar1) c.self.view_is

pub overflow_cast-result : goal.overflow_cast-result
overflow_cast-result c =
    let l = c.self.inside.lent in
    omega (arith, subchar1-byte limits l.rec (memory_of l) c.self.invariant.tested)

pub returns : goal.returns
returns c =
    let l = c.self.inside.lent in
    sym (table-subchar1 l.rec (memory_of l) ∙ subchar1-some l.rec.subchar1 c.if-given-eq0.false)
    ∙ ap (λ (t : Table). t.subchar1) c.self.view_is
