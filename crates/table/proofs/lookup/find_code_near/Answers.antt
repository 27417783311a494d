-- The line at the place, if it fits, is the one that is found; else it is the search.
use Rattle.std.specs.Prelude.{Some}
use mathlib.Core.Path.{sym, ◌∙◌, subst}
use Rattle.table.specs.Lookup.{CodeFound}
use Rattle.table.specs.declared.lookup.Mapping.{Mapping}
use Rattle.table.proofs.FoundLines.{code-line}
use Rattle.table.proofs.lookup.find_code_near.Goals as goal

pub returns-then-reads_at : goal.returns-then-reads_at
returns-then-reads_at c =
    let a = c.args in
    let h = sym c.reads_at.ensures.answer ∙ c.if-reads_at.true in
    subst (λ (m : Mapping). CodeFound a.rec a.lines.codes.now a.lines.infos.now a.code (Some m)) (sym c.of_stored.ensures)
    (code-line a.rec a.lines.codes.now a.lines.infos.now a.code a.at h)
